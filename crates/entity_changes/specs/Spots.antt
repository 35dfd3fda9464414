-- Where entities and links are looked up.
-- Source: this project's.
use Rattle.std.specs.Prelude.{ℕ, List, [], Bool}
use Rattle.std.specs.declared.cmp.Ordering.{Ordering}
use Rattle.std.specs.Ordering.{nat_cmp, is_eq, ordering_then}
use Rattle.std.specs.Cmp.Lexicographic.{slice_cmp}
use Rattle.emc_base.specs.Order.{value_cmp}
use Rattle.round_trip.specs.Words.{SetId, AssocId, Value, Link}

-- a number and two keys
abbrev pub Spot : Type 0
Spot = ℕ × List Value × List Value

-- by the number, and then by the keys
abbrev pub spot_cmp : Spot → Spot → Ordering
spot_cmp one other = ordering_then (ordering_then (nat_cmp one.0 other.0) (slice_cmp value_cmp one.1 other.1)) (slice_cmp value_cmp one.2 other.2)

-- whether two spots are one
abbrev pub same_spot : Spot → Spot → Bool
same_spot one other = is_eq (spot_cmp one other)

-- the spot of a key in a set
abbrev pub key_spot : SetId → List Value → Spot
key_spot s key = (s.index, key, [])

-- the spot of a link
abbrev pub link_spot : AssocId → Link → Spot
link_spot a link = (a.index, link.first, link.second)
