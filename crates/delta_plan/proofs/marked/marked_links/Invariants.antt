use Rattle.std.proofs.Common.{◌≡◌, filter, flat_map, map, take}
use Rattle.std.specs.List.{enumerate_from}
use Rattle.round_trip.specs.Words.{EntityModel}
use Rattle.delta_plan.specs.Marked.{is_marked, unit_of_link}
use Rattle.delta_plan.specs.Units.{assoc_units}
use Rattle.delta_plan.proofs.marked.marked_links.Given as goal

-- the association sets so far are gone over
abbrev pub invariant-loop-index : goal.invariant-loop-index
invariant-loop-index l = (model : EntityModel) → map unit_of_link l.found.items ≡ filter (is_marked model l.marks)
    (flat_map assoc_units (take l.index (enumerate_from 0 l.state.links)))
