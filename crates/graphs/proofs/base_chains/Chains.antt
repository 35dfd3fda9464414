-- Chains of bases: enough of them, step by step, and what stands in them.
use Rattle.std.proofs.Common.{◌≡◌, ◌≢◌, ◌⊎◌, ⊎_elim, inl, inr, ℕ, zero, suc, ◌+◌, ◌<◌, ◌≤◌, List, [], ◌∷◌, ◌++◌, length, get_or, All, AllPairs, Contains, MatchOption, Option, Some, None, eqb, eqb-true, true, refl, sym, ap, subst, ◌∙◌, arith}
use Rattle.std.specs.Bool.{⊤}
use Rattle.std.specs.Option.{option_map_or}
use Rattle.std.proofs.lemmas.List.{get_or_default, length-append}
use Rattle.std.proofs.lemmas.List.Elements.{Contains-append_left, Contains-push, Contains-push_cases, Contains-get_or}
use Rattle.std.proofs.lemmas.List.Quantifiers.{all_pairs_push}
use Rattle.std.proofs.lemmas.Map.Made.{IsDistinct-from_AllPairs}
use Rattle.std.proofs.lemmas.Map.Steps.{length-le_from_distinct_below}
use Rattle.std.proofs.lemmas.Map.Views.{Contains-from_any}
use Rattle.std.proofs.lemmas.Bool.Decides.{Decides-eqb}
use Rattle.graphs.specs.base_chains.Chains.{IsAncestor, direct, further, StaysWithin, base_at, chain, chain_upto}
use Rattle.emc_base.proofs.Members.{contains_nil}

-- the base at a place, as it is read
pub base_read : (bases : List (Option ℕ)) (i : ℕ) → get_or bases i None ≡ base_at bases i
base_read [] i = refl
base_read (x ∷ bases) zero = refl
base_read (x ∷ bases) (suc i) = base_read bases i

-- only a place of the list has a base
pub has_base : (bases : List (Option ℕ)) (i j : ℕ) → base_at bases i ≡ Some j → i < length bases
has_base [] i j is = absurd cc
has_base (x ∷ bases) zero j is = omega arith
has_base (x ∷ bases) (suc i) j is = let within : i < length bases = has_base bases i j is in omega arith

-- all bases of a list are places of it, item by item
pub all_within : (bases : List (Option ℕ)) → All (λ base. MatchOption base ⊤ (λ i. i < length bases)) bases → StaysWithin (base_at bases) (length bases)
all_within bases all i j is =
    let P : Option ℕ → Type 0 = λ base. MatchOption base ⊤ (λ k. k < length bases) in
    subst P (base_read bases i ∙ is) (all i None (has_base bases i j is))

pub within_all : (bases : List (Option ℕ)) → StaysWithin (base_at bases) (length bases) → All (λ base. MatchOption base ⊤ (λ i. i < length bases)) bases
within_all bases within k d k_in = by (get_or bases k d) (get_or_default bases k d None k_in ∙ base_read bases k)
  where
    by : (base : Option ℕ) → base ≡ base_at bases k → MatchOption base ⊤ (λ i. i < length bases)
    by None is = tt
    by (Some j) is = within k j (sym is)

module _ (base : ℕ → Option ℕ) where
  -- at most so many places stand in the chain of a place
  abbrev pub Ends : ℕ → ℕ → Type 0
  Ends zero i = ⊥
  Ends (suc n) i = MatchOption (base i) ⊤ (λ j. Ends n j)

  -- what stands above a place that stands above another stands above that
  pub above_above : (i j k : ℕ) → IsAncestor base i j → IsAncestor base j k → IsAncestor base i k
  above_above i j k (direct _ _ is) upper = further i j k is upper
  above_above i j k (further _ m _ is rest) upper = further i m k is (above_above m j k rest upper)

  -- what holds of a place's base, and goes on from each place to its base, holds of all that stand above it
  pub closed_ancestors : (P : ℕ → Type 0) → ((x j : ℕ) → P x → base x ≡ Some j → P j)
      → (i x : ℕ) → ((j : ℕ) → base i ≡ Some j → P j) → IsAncestor base i x → P x
  closed_ancestors P up i x start (direct _ _ is) = start x is
  closed_ancestors P up i x start (further _ j _ is rest) = closed_ancestors P up j x (λ k next. up j k (start j is) next) rest

  -- what follows from a base that is known
  at_base : (n i j : ℕ) → base i ≡ Some j → Ends (suc n) i → Ends n j
  at_base n i j is ends = let P : Option ℕ → Type 0 = λ o. MatchOption o ⊤ (λ k. Ends n k) in subst P is ends

  next_is : (n i j : ℕ) → base i ≡ Some j → chain_upto base (suc n) i ≡ chain_upto base n j ++ i ∷ []
  next_is n i j is = ap (λ (o : Option ℕ). option_map_or (λ k. chain_upto base n k) o [] ++ i ∷ []) is

  root_is : (n i : ℕ) → base i ≡ None → chain_upto base (suc n) i ≡ i ∷ []
  root_is n i is = ap (λ (o : Option ℕ). option_map_or (λ k. chain_upto base n k) o [] ++ i ∷ []) is

  -- once a chain ends, more of it is the same
  pub chain_stable : (n m i : ℕ) → Ends n i → n ≤ m → chain_upto base m i ≡ chain_upto base n i
  chain_stable zero m i ends le = absurd ends
  chain_stable (suc n) zero i ends le = absurd (omega arith)
  chain_stable (suc n) (suc m) i ends le = by (base i) ends (λ j end. chain_stable n m j end (omega arith))
    where
      by : (o : Option ℕ) → MatchOption o ⊤ (λ j. Ends n j) → ((j : ℕ) → Ends n j → chain_upto base m j ≡ chain_upto base n j)
          → option_map_or (λ j. chain_upto base m j) o [] ++ i ∷ [] ≡ option_map_or (λ j. chain_upto base n j) o [] ++ i ∷ []
      by None end same = refl
      by (Some j) end same = ap (λ xs. xs ++ i ∷ []) (same j end)

  -- a place stands behind the chain of its base
  pub chain_step : (n i j : ℕ) → Ends n i → base i ≡ Some j → chain base n i ≡ chain base n j ++ i ∷ []
  chain_step zero i j ends is = absurd ends
  chain_step (suc n) i j ends is =
      next_is n i j is ∙ ap (λ xs. xs ++ i ∷ []) (sym (chain_stable n (suc n) j (at_base n i j is ends) (omega arith)))

  -- a root stands alone
  pub chain_root : (n i : ℕ) → Ends n i → base i ≡ None → chain base n i ≡ i ∷ []
  chain_root zero i ends is = absurd ends
  chain_root (suc n) i ends is = root_is n i is

  -- what stands in a chain is the place or stands above it
  pub in_chain : (n i x : ℕ) → Contains (chain base n i) x → (x ≡ i) ⊎ IsAncestor base i x
  in_chain zero i x has = absurd (contains_nil x has)
  in_chain (suc n) i x has = by (base i) refl (λ j is there. above j is (in_chain n j x there)) has
    where
      above : (j : ℕ) → base i ≡ Some j → (x ≡ j) ⊎ IsAncestor base j x → IsAncestor base i x
      above j is = ⊎_elim (λ (same : x ≡ j). direct i x (is ∙ ap Some (sym same))) (λ (rest : IsAncestor base j x). further i j x is rest)

      by : (o : Option ℕ) → base i ≡ o → ((j : ℕ) → base i ≡ Some j → Contains (chain_upto base n j) x → IsAncestor base i x)
          → Contains (option_map_or (λ j. chain_upto base n j) o [] ++ i ∷ []) x → (x ≡ i) ⊎ IsAncestor base i x
      by None is up there = ⊎_elim (λ (no : Contains [] x). absurd (contains_nil x no)) (λ (same : i ≡ x). inl (sym same)) (Contains-push_cases [] i x there)
      by (Some j) is up there = ⊎_elim
          (λ (upper : Contains (chain_upto base n j) x). inr (up j is upper))
          (λ (same : i ≡ x). inl (sym same))
          (Contains-push_cases (chain_upto base n j) i x there)

  -- a place stands in its chain
  pub itself_in : (n i : ℕ) → Ends n i → Contains (chain base n i) i
  itself_in zero i ends = absurd ends
  itself_in (suc n) i ends = Contains-push (option_map_or (λ j. chain_upto base n j) (base i) []) i

  -- and so does each that stands above it
  pub ancestor_in : (n i x : ℕ) → Ends n i → IsAncestor base i x → Contains (chain base n i) x
  ancestor_in zero i x ends above = absurd ends
  ancestor_in (suc n) i x ends above = by above (λ j is rest. ancestor_in n j x (at_base n i j is ends) rest)
    where
      upper : (j : ℕ) → base i ≡ Some j → Contains (chain_upto base n j) x → Contains (chain_upto base (suc n) i) x
      upper j is there = let P : List ℕ → Type 0 = λ xs. Contains xs x in
          subst P (sym (next_is n i j is)) (Contains-append_left (chain_upto base n j) (i ∷ []) x there)

      by : IsAncestor base i x → ((j : ℕ) → base i ≡ Some j → IsAncestor base j x → Contains (chain_upto base n j) x) → Contains (chain_upto base (suc n) i) x
      by (direct _ _ is) rec = upper x is (itself_in n x (at_base n i x is ends))
      by (further _ j _ is rest) rec = upper j is (rec j is rest)

  -- no place stands in a chain twice, where none stands above itself
  pub chain_apart : ((x : ℕ) → ¬ IsAncestor base x x) → (n i : ℕ) → AllPairs (λ a b. a ≢ b) (chain base n i)
  chain_apart no_cycle zero i = λ a b d below within. absurd (omega arith)
  chain_apart no_cycle (suc n) i = by (base i) refl (chain_apart no_cycle n)
    where
      other : (j : ℕ) → base i ≡ Some j → (x : ℕ) → Contains (chain_upto base n j) x → x ≢ i
      other j is x there same = no_cycle i (⊎_elim
          (λ (last : x ≡ j). direct i i (is ∙ ap Some (sym last ∙ same)))
          (λ (rest : IsAncestor base j x). further i j i is (let P : ℕ → Type 0 = λ y. IsAncestor base j y in subst P same rest))
          (in_chain n j x there))

      by : (o : Option ℕ) → base i ≡ o → ((j : ℕ) → AllPairs (λ a b. a ≢ b) (chain_upto base n j))
          → AllPairs (λ a b. a ≢ b) (option_map_or (λ j. chain_upto base n j) o [] ++ i ∷ [])
      by None is upper = λ a b d below within. absurd (omega arith)
      by (Some j) is upper = all_pairs_push (λ a b. a ≢ b) (chain_upto base n j) i (upper j)
          (λ k d within. other j is (get_or (chain_upto base n j) k d) (Contains-get_or (chain_upto base n j) k d within))

  -- a chain ends, or there is always one more
  ends_or_longer : (n i : ℕ) → Ends n i ⊎ (length (chain_upto base (suc n) i) ≡ suc n)
  ends_or_longer zero i = inr (by (base i))
    where
      by : (o : Option ℕ) → length (option_map_or (λ j. chain_upto base 0 j) o [] ++ i ∷ []) ≡ 1
      by None = refl
      by (Some j) = refl
  ends_or_longer (suc n) i = by (base i) (ends_or_longer n)
    where
      by : (o : Option ℕ) → ((j : ℕ) → Ends n j ⊎ (length (chain_upto base (suc n) j) ≡ suc n)) → MatchOption o ⊤ (λ j. Ends n j) ⊎ (length (option_map_or (λ j. chain_upto base (suc n) j) o [] ++ i ∷ []) ≡ suc (suc n))
      by None upper = inl tt
      by (Some j) upper = ⊎_elim
          (λ (end : Ends n j). inl end)
          (λ (more : length (chain_upto base (suc n) j) ≡ suc n). inr (length-append (chain_upto base (suc n) j) (i ∷ []) ∙ (let w : length (chain_upto base (suc n) j) + 1 ≡ suc (suc n) = omega (arith, more) in w)))
          (upper j)

  -- numbers below a bound with no repeats are no more than the bound
  pub few_apart : (xs : List ℕ) (count : ℕ) → AllPairs (λ a b. a ≢ b) xs → ((x : ℕ) → Contains xs x → x < count) → length xs ≤ count
  few_apart xs count apart below = length-le_from_distinct_below xs count (IsDistinct-from_AllPairs Decides-eqb xs apart)
      (λ q found. below q (Contains-from_any (λ x y. eqb_same x y) q xs found))
    where
      eqb_same : (x y : ℕ) → eqb x y ≡ true → x ≡ y
      eqb_same x y is = eqb-true x y is

  -- where none stands above itself, each chain ends within the number of places
  pub ends : ((x : ℕ) → ¬ IsAncestor base x x) → (count : ℕ) → StaysWithin base count → (i : ℕ) → i < count → Ends count i
  ends no_cycle count within i inside = ⊎_elim
      (λ (end : Ends count i). end)
      (λ (more : length (chain_upto base (suc count) i) ≡ suc count). absurd (
      let few : length (chain_upto base (suc count) i) ≤ count = few_apart (chain_upto base (suc count) i) count (chain_apart no_cycle (suc count) i) below in
      omega (arith, more, few)))
      (ends_or_longer count i)
    where
      below : (x : ℕ) → Contains (chain_upto base (suc count) i) x → x < count
      below x there = ⊎_elim
          (λ (same : x ≡ i). let w : x ≡ i = same in omega arith)
          (λ (above : IsAncestor base i x). closed_ancestors (λ y. y < count) (λ y j _ next. within y j next) i x (within i) above)
          (in_chain (suc count) i x there)
