use Rattle.groupings.specs.linked_places.Joinings.{IsAlone}
use Rattle.groupings.proofs.linked_places.joining.Joining.apart.Given as goal

-- each place so far is in a class of its own
abbrev pub invariant-loop-place : goal.invariant-loop-place
invariant-loop-place l = IsAlone l.place l.joining
