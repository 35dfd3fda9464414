use Rattle.std.proofs.Common.{MatchOption, codes}
use Rattle.std.proofs.lemmas.Result.{IfOk-weaker}
use Rattle.json_form.specs.declared.pointer.Step.TheVariants.{Member}
use Rattle.layouts.specs.declared.fault.Fault.{Fault}
use Rattle.layouts.specs.Inside.{Under}
use Rattle.layouts.specs.rule_places.Places.{InList}
use Rattle.csdl_names.specs.declared.csdl_lists.raw.RawConstraint.{RawConstraint}
use Rattle.csdl_names.specs.csdl_lists.References.{names_in}
use Rattle.csdl_names.specs.Unresolved.{IsUnresolvedInConstraint, IsUnresolvedInEnd}
use Rattle.layouts.proofs.rule_places.Rules.{least_searches, least_where_some}
use Rattle.layouts.proofs.rule_places.LeastFound.{at_none, first_only, none_of}
use Rattle.csdl_names.proofs.unresolved.LookupsFinderRawAssociationFault.find.Goals as goal

pub returns-in_default : goal.returns-in_default
returns-in_default c =
    let model = c.args.self.now.model.now in
    let association = c.args.item.now in
    let Ends : Fault → Type 0 = InList (codes "End") (IsUnresolvedInEnd (names_in model) model) association.ends in
    let Constraint : RawConstraint → Fault → Type 0 = λ constraint. Under (Member (codes "ReferentialConstraint")) (IsUnresolvedInConstraint (names_in model) model association constraint) in
    IfOk-weaker c.first_at-ends.result _ _
    (λ found. first_only Ends (λ fault. MatchOption association.constraint ⊥ (λ constraint. Constraint constraint fault)) found
    (at_none association.constraint Constraint (none_of association.constraint c.in_default.not-Some)))
    c.first_at-ends.ensures

pub returns : goal.returns
returns c =
    let model = c.args.self.now.model.now in
    let association = c.args.item.now in
    let Ends : Fault → Type 0 = InList (codes "End") (IsUnresolvedInEnd (names_in model) model) association.ends in
    let Constraint : RawConstraint → Fault → Type 0 = λ constraint. Under (Member (codes "ReferentialConstraint")) (IsUnresolvedInConstraint (names_in model) model association constraint) in
    least_searches Ends (λ fault. MatchOption association.constraint ⊥ (λ constraint. Constraint constraint fault)) c.first_at-ends.result c.first_in_constraint.result
    c.earlier_of.result c.earlier_of.ensures c.first_at-ends.ensures
    (IfOk-weaker c.first_in_constraint.result _ _ (λ found. least_where_some Constraint association.constraint c.in-Some.constraint found c.in-Some.is) c.first_in_constraint.ensures)
