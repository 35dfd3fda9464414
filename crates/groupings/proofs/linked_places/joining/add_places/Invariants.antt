use Rattle.std.proofs.Common.{◌≡◌, ◌++◌, take}
use Rattle.groupings.proofs.linked_places.joining.add_places.Given as goal

-- the places so far are added
abbrev pub invariant-loop-place : goal.invariant-loop-place
invariant-loop-place l = l.list ≡ l.initial.list ++ take l.place-index l.places
