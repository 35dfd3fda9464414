use Rattle.std.proofs.Common.{◌≡◌, ◌++◌, All, filter, map, take}
use Rattle.delta_plan.specs.Marked.{HasOwnKey, is_marked, unit_of}
use Rattle.delta_plan.specs.Units.{of_entity}
use Rattle.delta_plan.proofs.marked.add_set.Given as goal

-- those so far are gone over
abbrev pub invariant-loop-entity : goal.invariant-loop-entity
invariant-loop-entity l =
    (map unit_of l.found.items ≡ map unit_of l.initial.found.items ++ filter (is_marked l.model l.marks) (map (of_entity l.initial.set) (take l.entity-index l.entities)))
    × (All (HasOwnKey l.model) l.initial.found.items → All (HasOwnKey l.model) l.found.items)
