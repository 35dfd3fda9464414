use Rattle.std.proofs.Common.{◌≡◌, ◌+◌, sum_by, take}
use Rattle.csdl_names.specs.csdl_lists.References.{names_in}
use Rattle.csdl_names.specs.Climbs.{steps_of_constraint}
use Rattle.csdl_names.proofs.climbs.left_by_constraints.Given as goal

-- what is left, and the steps of the associations that were passed
abbrev pub invariant-loop-association : goal.invariant-loop-association
invariant-loop-association l =
    let model = l.lookups.model.now in
    l.left + sum_by (steps_of_constraint (names_in model) model) (take l.association-index l.association-items) ≡ l.most
