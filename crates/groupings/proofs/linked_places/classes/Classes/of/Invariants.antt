use Rattle.std.proofs.Common.{take}
use Rattle.groupings.specs.linked_places.Joinings.{IsJoining}
use Rattle.groupings.specs.linked_places.Links.{IsClasses}
use Rattle.groupings.proofs.linked_places.classes.Classes.of.Given as goal

-- the classes by the links so far
abbrev pub invariant-loop-link : goal.invariant-loop-link
invariant-loop-link l = IsJoining l.joining × IsClasses l.count (take l.link-index l.links) (record { numbers = l.joining.numbers.items })
