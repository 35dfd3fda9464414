use Rattle.round_trip.specs.Between.{schema_of}
use Rattle.table_owners.specs.Places.{IsLinkPlace, maps_to}
use Rattle.table_owners.specs.Puts.{Puts}
use Rattle.table_owners.proofs.places.places_of.Given as goal

-- the fragments so far are put
abbrev pub invariant-loop-number : goal.invariant-loop-number
invariant-loop-number l = Puts maps_to (IsLinkPlace (schema_of l.model l.store l.mapping)) l.mapping.links l.number l.initial.places.items l.places.items
