-- The properties of pairs.
use Rattle.std.proofs.Common.{◌≡◌, ℕ, ◌<◌, List, length, get_or, All, Contains, map, subst}
use Rattle.std.specs.List.{HoldsAt}
use Rattle.std.proofs.lemmas.List.Elements.{All-contains, Contains-get_or}
use Rattle.emc_base.proofs.Lists.{all_from_members}
use Rattle.emc_base.proofs.Mapped.{contains_map}
use Rattle.round_trip.specs.Words.{PropId, Pair}

-- the property of a pair
abbrev pub prop : Pair → PropId
prop pair = pair.prop

-- that of the pair at a place is one of the properties
pub prop_at : (pairs : List Pair) (p : PropId) (k : ℕ) → k < length pairs → HoldsAt (λ (pair : Pair). pair.prop ≡ p) pairs k → Contains (map prop pairs) p
prop_at pairs p k within holds =
    let some : Pair = record { prop = p; col = record { index = 0 } } in
    subst (Contains (map prop pairs)) (holds some) (contains_map prop pairs (get_or pairs k some) (Contains-get_or pairs k some within))

-- what holds of the properties holds of that of each pair
pub all_of_pairs : (P : PropId → Type 0) (pairs : List Pair) → All P (map prop pairs) → All (λ pair. P pair.prop) pairs
all_of_pairs P pairs all =
    all_from_members (λ pair. P pair.prop) pairs (λ pair has. All-contains P (map prop pairs) pair.prop all (contains_map prop pairs pair has))
