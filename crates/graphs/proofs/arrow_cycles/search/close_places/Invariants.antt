use Rattle.std.proofs.Common.{take}
use Rattle.graphs.specs.arrow_cycles.Searches.{AreClosed}
use Rattle.graphs.proofs.arrow_cycles.search.close_places.Given as goal

-- the places so far are marked
abbrev pub invariant-loop-place : goal.invariant-loop-place
invariant-loop-place l = AreClosed l.number (take l.place-index l.places) l.initial.marks.items l.marks.items
