use Rattle.std.proofs.Common.{◌≡◌, ◌++◌, filter, map, take}
use Rattle.round_trip.specs.Words.{EntityModel}
use Rattle.delta_plan.specs.Marked.{is_marked, unit_of_link}
use Rattle.delta_plan.specs.Units.{of_link}
use Rattle.delta_plan.proofs.marked.add_assoc.Given as goal

-- those so far are gone over
abbrev pub invariant-loop-link : goal.invariant-loop-link
invariant-loop-link l = (model : EntityModel)
    → map unit_of_link l.found.items ≡ map unit_of_link l.initial.found.items ++ filter (is_marked model l.marks) (map (of_link l.initial.assoc) (take l.link-index l.links))
