-- What holds of each of two lists put together, and columns of pairs.
use Rattle.std.proofs.Common.{◌≡◌, ◌⊎◌, ℕ, ◌<◌, List, ◌++◌, length, get_or, All, Contains, map, sym, subst}
use Rattle.std.specs.List.{HoldsAt}
use Rattle.std.proofs.lemmas.List.{map-append}
use Rattle.std.proofs.lemmas.List.Elements.{All-contains, Contains-append_cases, Contains-append_left, Contains-append_right, Contains-get_or}
use Rattle.emc_base.proofs.Lists.{all_from_members}
use Rattle.emc_base.proofs.Mapped.{contains_map}
use Rattle.round_trip.specs.Words.{ColId, Pair}

module _ {X : Type 0} (P : X → Type 0) (xs ys : List X) where
  -- what holds of each holds of those of the first list
  pub all_first : All P (xs ++ ys) → All P xs
  all_first all = all_from_members P xs (λ x has. All-contains P (xs ++ ys) x all (Contains-append_left xs ys x has))

  -- and of those of the second
  pub all_second : All P (xs ++ ys) → All P ys
  all_second all = all_from_members P ys (λ y has. All-contains P (xs ++ ys) y all (Contains-append_right xs ys y has))

abbrev column : Pair → ColId
column pair = pair.col

-- the column of a pair at a place is one of the columns
pub column_at : (pairs : List Pair) (col : ColId) (k : ℕ) → k < length pairs → HoldsAt (λ (pair : Pair). pair.col ≡ col) pairs k → Contains (map column pairs) col
column_at pairs col k within holds =
    let some : Pair = record { prop = record { index = 0 }; col = col } in
    subst (Contains (map column pairs)) (holds some) (contains_map column pairs (get_or pairs k some) (Contains-get_or pairs k some within))

module _ (one other : List Pair) (col : ColId) where
  -- a column of the pairs together is one of the first, or one of the second
  pub either_column : Contains (map column (one ++ other)) col → Contains (map column one) col ⊎ Contains (map column other) col
  either_column has = Contains-append_cases (map column one) (map column other) col (subst (λ cols. Contains cols col) (map-append column one other) has)

  -- a column of the first is one of them together
  pub first_column : Contains (map column one) col → Contains (map column (one ++ other)) col
  first_column has = subst (λ cols. Contains cols col) (sym (map-append column one other)) (Contains-append_left (map column one) (map column other) col has)

  -- and so is one of the second
  pub second_column : Contains (map column other) col → Contains (map column (one ++ other)) col
  second_column has = subst (λ cols. Contains cols col) (sym (map-append column one other)) (Contains-append_right (map column one) (map column other) col has)
