use Rattle.std.proofs.Common.{◌↔◌, IsTrue, MatchOption, Option, sym, subst}
use Rattle.csdl_names.specs.declared.csdl_lists.raw.RawConstraint.{RawConstraint}
use Rattle.csdl_names.specs.csdl_lists.References.{Names, names_in}
use Rattle.csdl_types.specs.Simple.{types_by}
use Rattle.csdl_associations.specs.csdl_constraints.Constraints.{BreaksListsIn}
use Rattle.csdl_associations.proofs.csdl_constraints.rules.breaks_constraint.Goals as goal

pub returns : goal.returns
returns c =
    let lookups = c.args.sides.now.lookups.now in
    let model = lookups.model.now in
    let Or : Names → RawConstraint → Type 0 = λ names constraint. BreaksListsIn model (types_by names) c.args.association.now constraint (IsTrue c.args.has_other) in
    let By : Names → Type 0 = λ names. IsTrue c.in_ok-answer.answer ↔ Or names c.in-Some.constraint in
    let P : Option RawConstraint → Type 0 = λ o. IsTrue c.in_ok-answer.answer ↔ MatchOption o ⊥ (Or (names_in model)) in
    subst P (sym c.in-Some.is) (subst By lookups.named c.in_ok-answer.ensures)
