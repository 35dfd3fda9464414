use Rattle.std.proofs.Common.{◌≡◌, map, take}
use Rattle.table_owners.specs.Places.{place_without}
use Rattle.table_owners.proofs.places.places_without.Given as goal

-- the places so far
abbrev pub invariant-loop-assoc : goal.invariant-loop-assoc
invariant-loop-assoc l = l.places.items ≡ map place_without (take l.assoc-index l.model.assocs)
