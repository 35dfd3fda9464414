use Rattle.std.proofs.Common.{◌≡◌, take, flat_map}
use Rattle.cells.specs.Cells.{is_free_in}
use Rattle.delta_plan.specs.Keeping.{kept_of}
use Rattle.delta_plan.proofs.keeping.kept_in_groups.Given as goal

-- the rows of the keys so far
abbrev pub invariant-loop-group : goal.invariant-loop-group
invariant-loop-group l = l.rows ≡ flat_map (kept_of (is_free_in l.cells l.initial.id)) (take l.group-index l.groups)
