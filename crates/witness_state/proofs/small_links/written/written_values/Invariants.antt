use Rattle.std.proofs.Common.{◌≡◌, map, take}
use Rattle.round_trip.specs.Words.{link_cells, written_to}
use Rattle.witness_state.proofs.small_links.written.written_values.Given as goal

-- the values of the columns so far have come
abbrev pub invariant-loop-col : goal.invariant-loop-col
invariant-loop-col l = l.key ≡ map (written_to (link_cells l.model l.declared l.fragment l.link)) (take l.col-index l.cols)
