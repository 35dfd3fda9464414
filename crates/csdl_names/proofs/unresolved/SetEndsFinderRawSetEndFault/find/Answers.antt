use Rattle.std.proofs.Common.{◌∷◌, [], codes}
use Rattle.std.proofs.lemmas.Result.{IfOk-weaker}
use Rattle.json_form.specs.declared.pointer.Step.TheVariants.{Member}
use Rattle.layouts.specs.declared.fault.Fault.{Fault}
use Rattle.layouts.specs.declared.rule.Rule.TheVariants.{Resolves}
use Rattle.layouts.specs.rule_places.Places.{IsAt}
use Rattle.csdl_names.specs.csdl_lists.References.{names_in}
use Rattle.csdl_names.specs.Unresolved.{LacksRole}
use Rattle.layouts.specs.rule_places.Names.{NamesNothing}
use Rattle.layouts.proofs.rule_places.Rules.{least_searches}
use Rattle.csdl_names.proofs.LeastFound.{names_nothing}
use Rattle.csdl_names.proofs.unresolved.SetEndsFinderRawSetEndFault.find.Goals as goal

pub returns : goal.returns
returns c =
    let model = c.args.self.now.lookups.now.model.now in
    let end = c.args.item.now in
    let Role : Fault → Type 0 = λ fault. LacksRole (names_in model) model c.args.self.now.set.now.association end.role × IsAt Resolves (Member (codes "Role") ∷ []) fault in
    let Set : Fault → Type 0 = NamesNothing ((names_in model).set_named end.set) (codes "EntitySet") in
    least_searches Role Set c.first_of_role-role.result c.first_of_none-set.result c.earlier_of.result c.earlier_of.ensures c.first_of_role-role.ensures
    (IfOk-weaker c.first_of_none-set.result _ _
    (λ found. names_nothing c.set_named-named.result ((names_in model).set_named end.set) (codes "EntitySet") found c.set_named-named.ensures) c.first_of_none-set.ensures)
