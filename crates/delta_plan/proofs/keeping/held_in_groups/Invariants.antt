use Rattle.std.proofs.Common.{◌≡◌, take, flat_map}
use Rattle.delta_plan.specs.Keeping.{held_of}
use Rattle.delta_plan.proofs.keeping.held_in_groups.Given as goal

-- the rows of the keys so far
abbrev pub invariant-loop-group : goal.invariant-loop-group
invariant-loop-group l = l.rows ≡ flat_map held_of (take l.group-index l.groups)
