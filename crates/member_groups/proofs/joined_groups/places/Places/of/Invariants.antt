use Rattle.member_groups.specs.joined_groups.Places.{ArePlacesUpTo}
use Rattle.member_groups.proofs.joined_groups.places.Places.of.Given as goal

-- the properties and the columns of the tables so far have places
abbrev pub invariant-loop-table : goal.invariant-loop-table
invariant-loop-table l = ArePlacesUpTo l.model l.store l.table-index l.places
