use Rattle.std.proofs.Common.{◌<◌, List, refl, subst, sum_by}
use Rattle.std.proofs.lemmas.Option.{slice_get_read}
use Rattle.csdl_names.specs.declared.csdl_lists.raw.RawAssociation.{RawAssociation}
use Rattle.csdl_names.specs.csdl_lists.References.{names_in}
use Rattle.csdl_names.specs.Climbs.{steps_of_constraint, steps_of_constraints}
use Rattle.csdl_names.proofs.StepsLeft.{refuses, takes_over}
use Rattle.csdl_names.proofs.climbs.left_by_constraints.Goals as goal

pub returns-in_err-left : goal.returns-in_err-left
returns-in_err-left c =
    let model = c.args.lookups.now.model.now in
    let most = c.args.most in
    let items = c.as_slice-association-items.result.now in
    let i = c.loop-association.association-index in
    let item = c.association-item.result in
    let steps = steps_of_constraint (names_in model) model in
    let here = slice_get_read items _ i item refl c.loop-association-test.true c.association-item.is in
    let Over : List RawAssociation → Type 0 = λ xs. most < sum_by steps xs in
    refuses most (steps_of_constraints (names_in model) model) c.from_residual.result c.from_residual.ensures.0
    (subst Over c.as_slice-association-items.ensures.items
    (takes_over steps items i most c.loop-association.left c.loop-association.invariant item here c.in_err-left.ensures))
