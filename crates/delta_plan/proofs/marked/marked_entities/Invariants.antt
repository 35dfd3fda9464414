use Rattle.std.proofs.Common.{◌≡◌, All, filter, flat_map, map, take}
use Rattle.std.specs.List.{enumerate_from}
use Rattle.delta_plan.specs.Marked.{HasOwnKey, is_marked, unit_of}
use Rattle.delta_plan.specs.Units.{set_units}
use Rattle.delta_plan.proofs.marked.marked_entities.Given as goal

-- the sets so far are gone over
abbrev pub invariant-loop-index : goal.invariant-loop-index
invariant-loop-index l =
    (map unit_of l.found.items ≡ filter (is_marked l.model l.marks)
    (flat_map set_units (take l.index (enumerate_from 0 l.state.entities))))
    × All (HasOwnKey l.model) l.found.items
