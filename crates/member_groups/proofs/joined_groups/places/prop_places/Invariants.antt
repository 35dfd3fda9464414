use Rattle.member_groups.specs.joined_groups.Places.{HavePlaces, IsPropOfKey}
use Rattle.member_groups.proofs.joined_groups.places.prop_places.Given as goal

-- the properties so far have places
abbrev pub invariant-loop-place : goal.invariant-loop-place
invariant-loop-place l = HavePlaces (IsPropOfKey l.model) l.place 0 l.places
