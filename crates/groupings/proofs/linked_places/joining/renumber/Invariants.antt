use Rattle.std.proofs.Common.{take}
use Rattle.groupings.specs.linked_places.Joinings.{AreNumbered}
use Rattle.groupings.proofs.linked_places.joining.renumber.Given as goal

-- the places so far have the number
abbrev pub invariant-loop-place : goal.invariant-loop-place
invariant-loop-place l = AreNumbered l.number (take l.place-index l.places) l.initial.numbers.items l.numbers.items
