use Rattle.member_groups.specs.joined_groups.Places.{HavePlaces, IsColumnOfKey}
use Rattle.member_groups.proofs.joined_groups.places.column_places.Given as goal

-- the columns so far have places
abbrev pub invariant-loop-place : goal.invariant-loop-place
invariant-loop-place l = HavePlaces (IsColumnOfKey l.table) l.place l.first l.places
