use Rattle.std.proofs.Common.{◌⊎◌, ◌∷◌, [], codes}
use Rattle.std.proofs.lemmas.Result.{IfOk-weaker}
use Rattle.json_form.specs.declared.pointer.Step.TheVariants.{Member}
use Rattle.layouts.specs.declared.fault.Fault.{Fault}
use Rattle.layouts.specs.declared.rule.Rule.TheVariants.{Resolves}
use Rattle.layouts.specs.rule_places.Places.{IsAt}
use Rattle.csdl_names.specs.csdl_lists.References.{names_in}
use Rattle.csdl_names.specs.Unresolved.{LacksRole}
use Rattle.layouts.specs.rule_places.Names.{NamesNothing}
use Rattle.layouts.proofs.rule_places.Rules.{least_searches}
use Rattle.csdl_names.proofs.LeastFound.{names_nothing}
use Rattle.csdl_names.proofs.unresolved.LookupsFinderRawNavFault.find.Goals as goal

pub returns : goal.returns
returns c =
    let model = c.args.self.now.model.now in
    let nav = c.args.item.now in
    let Association : Fault → Type 0 = NamesNothing ((names_in model).association_named nav.relationship) (codes "Relationship") in
    let From : Fault → Type 0 = λ fault. LacksRole (names_in model) model nav.relationship nav.from_role × IsAt Resolves (Member (codes "FromRole") ∷ []) fault in
    let To : Fault → Type 0 = λ fault. LacksRole (names_in model) model nav.relationship nav.to_role × IsAt Resolves (Member (codes "ToRole") ∷ []) fault in
    least_searches Association (λ fault. From fault ⊎ To fault) c.first_of_none-association.result c.earlier_of.result c.earlier_of-2.result c.earlier_of-2.ensures
    (IfOk-weaker c.first_of_none-association.result _ _
    (λ found. names_nothing c.association_named-named.result ((names_in model).association_named nav.relationship) (codes "Relationship") found c.association_named-named.ensures)
    c.first_of_none-association.ensures)
    (least_searches From To c.first_of_role-from.result c.first_of_role-to.result c.earlier_of.result c.earlier_of.ensures c.first_of_role-from.ensures c.first_of_role-to.ensures)
