-- What finders share: a find by its parts, the items of a list that was lent, those that were made of others, and the first that repeats.
use Rattle.std.proofs.Common.{◌≡◌, ℕ, ◌<◌, List, [], ◌∷◌, length, get_or, Option, Some, Result, IfOk, refl, sym, subst, ◌∙◌}
use Rattle.std.proofs.lemmas.Option.{slice_get_read, slice_get_within}
use Rattle.groupings.specs.least_fault.Least.{Among, IsLeast}
use Rattle.round_trip.specs.Words.{Place}
use Rattle.entity_state.specs.breach_order.Founds.{found_cmp}
use Rattle.entity_state.specs.breach_order.Repeats.{IsFirstRepeat, IsFoundRepeat}
use Rattle.entity_state.proofs.breach_order.FirstFound.{first_repeat_found}
use Rattle.entity_state.specs.declared.breach_order.found.Found.{Found}

-- a breach by its parts
pub from_parts : (found : Found) (rule : ℕ) (spot : List ℕ) (place : Place) → found.rule ≡ rule → found.spot ≡ spot → found.place ≡ place
    → found ≡ record { rule = rule; spot = spot; place = place }
from_parts found rule spot place is_rule is_spot is_place = λ i. record { rule = is_rule i; spot = is_spot i; place = is_place i }

-- the same list, lent
pub along : {X : Type 0} (P : ℕ → X → Found → Type 0) (lent items : List X) (found : Option Found) → lent ≡ items
    → IsLeast found_cmp (Among P lent) found → IsLeast found_cmp (Among P items) found
along {X} P lent items found same least = let Q : List X → Type 0 = λ list. IsLeast found_cmp (Among P list) found in subst Q same least

-- the same of a search that may lack memory
pub along_search : {X E : Type 0} (P : ℕ → X → Found → Type 0) (lent items : List X) (found : Result (Option Found) E) → lent ≡ items
    → IfOk found (IsLeast found_cmp (Among P lent)) → IfOk found (IsLeast found_cmp (Among P items))
along_search {X} P lent items found same least = let Q : List X → Type 0 = λ list. IfOk found (IsLeast found_cmp (Among P list)) in subst Q same least

module _ {X : Type 0} (rule n : ℕ) (place_of : X → Place) (keys wanted : List X) (are : keys ≡ wanted) where
  -- the first of these keys that is one before it, as it was found
  pub told_repeat : (told : Option ℕ) (i : ℕ) (key : X) (found : Found) (number : ℕ) (place : Place)
      → IsFirstRepeat (λ (one : X) (other : X). one ≡ other) keys told → told ≡ Some i → key ≡ get_or keys i key
      → found ≡ record { rule = number; spot = n ∷ i ∷ []; place = place } → number ≡ rule → place ≡ place_of key
      → IsLeast found_cmp (IsFoundRepeat rule n place_of wanted) (Some found)
  told_repeat told i key found number place first is here found_is is_rule is_place =
      let P : Option ℕ → Type 0 = λ o. IsFirstRepeat (λ (one : X) (other : X). one ≡ other) keys o in
      let repeat : IsFirstRepeat (λ (one : X) (other : X). one ≡ other) keys (Some i) = subst P is first in
      let within : i < length keys = slice_get_within keys i repeat.0.item repeat.0.here in
      let Q : List X → Type 0 = λ list. IsLeast found_cmp (IsFoundRepeat rule n place_of list) (Some found) in
      let R : Found → Type 0 = λ one. IsLeast found_cmp (IsFoundRepeat rule n place_of keys) (Some one) in
      let whole : found ≡ repeat_at key = found_is ∙ (λ k. record { rule = is_rule k; spot = n ∷ i ∷ []; place = is_place k }) in
      subst Q are (subst R (sym whole) (first_repeat_found rule n place_of keys i key (slice_get_read keys (length keys) i key refl within here) repeat))
    where
      repeat_at : X → Found
      repeat_at one = record { rule = rule; spot = n ∷ i ∷ []; place = place_of one }
