-- A limit that isn't passed is kept.
use Rattle.std.proofs.Common.{◌≡◌, ◌≤◌, ℕ, List, [], ◌∷◌, Bool, true, false, nat_lt, ltb-false, if◌then◌else◌, refl}
use Rattle.round_trip.specs.Words.{LimitFault, LimitKind}
use Rattle.region_partition.specs.mapping_limits.FirstLimit.{passed}

pub kept : (what : LimitKind) (name : List ℕ) (counted allowed : ℕ) → passed what name counted allowed ≡ [] → counted ≤ allowed
kept what name counted allowed none = by (nat_lt allowed counted) refl none
  where
    fault : LimitFault
    fault = record { what = what; name = name; counted = counted; allowed = allowed }

    by : (more : Bool) → nat_lt allowed counted ≡ more → (if more then fault ∷ [] else []) ≡ [] → counted ≤ allowed
    by true is listed = absurd cc
    by false is listed = ltb-false allowed counted is
