-- How deep a place stands below the last above it: where it ends at all, each place of its chain stands there once.
use Rattle.std.proofs.Common.{◌≡◌, ◌≢◌, ⊎_elim, ℕ, zero, suc, ◌+◌, ◌<◌, ◌≤◌, [], ◌∷◌, ◌++◌, length, get_or, AllPairs, Contains, MatchOption, Option, Some, None, refl, sym, ap, subst, ◌∙◌, arith}
use Rattle.std.specs.Option.{option_map_or}
use Rattle.std.proofs.lemmas.List.{length-append}
use Rattle.std.proofs.lemmas.List.Elements.{Contains-push_cases, Contains-get_or}
use Rattle.std.proofs.lemmas.List.Quantifiers.{all_pairs_push}
use Rattle.graphs.specs.base_chains.Chains.{IsAncestor, direct, further, chain_upto}
use Rattle.graphs.proofs.base_chains.Chains.{few_apart}
use Rattle.emc_base.proofs.Members.{contains_nil}

module _ (base : ℕ → Option ℕ) where
  -- just so many places stand in the chain of a place, which ends
  abbrev pub HasDepth : ℕ → ℕ → Type 0
  HasDepth zero i = ⊥
  HasDepth (suc n) i = MatchOption (base i) (n ≡ 0) (λ j. HasDepth n j)

  pub depth_root : (i : ℕ) → base i ≡ None → HasDepth 1 i
  depth_root i is = let P : Option ℕ → Type 0 = λ o. let none : ℕ = 0 in MatchOption o (none ≡ none) (λ j. HasDepth none j) in subst P (sym is) refl

  pub depth_up : (n i j : ℕ) → base i ≡ Some j → HasDepth n j → HasDepth (suc n) i
  depth_up n i j is deep = let P : Option ℕ → Type 0 = λ o. MatchOption o (n ≡ 0) (λ k. HasDepth n k) in subst P (sym is) deep

  -- a base stands one place less deep
  pub depth_base : (n i j : ℕ) → base i ≡ Some j → HasDepth n i → (m : ℕ) × HasDepth m j × (n ≡ m + 1)
  depth_base zero i j is deep = absurd deep
  depth_base (suc n) i j is deep = let P : Option ℕ → Type 0 = λ o. MatchOption o (n ≡ 0) (λ k. HasDepth n k) in (n, subst P is deep, omega arith)

  pub depth_once : (n m i : ℕ) → HasDepth n i → HasDepth m i → n ≡ m
  depth_once zero m i one other = absurd one
  depth_once (suc n) zero i one other = absurd other
  depth_once (suc n) (suc m) i one other = by (base i) one other (depth_once n m)
    where
      by : (o : Option ℕ) → MatchOption o (n ≡ 0) (λ j. HasDepth n j) → MatchOption o (m ≡ 0) (λ j. HasDepth m j)
          → ((j : ℕ) → HasDepth n j → HasDepth m j → n ≡ m) → suc n ≡ suc m
      by None first second upper = ap suc (first ∙ sym second)
      by (Some j) first second upper = ap suc (upper j first second)

  -- what stands in the chain stands no deeper
  in_depth : (n i x : ℕ) → HasDepth n i → Contains (chain_upto base n i) x → (k : ℕ) × HasDepth k x × (k ≤ n)
  in_depth zero i x deep has = absurd deep
  in_depth (suc n) i x deep has = by (base i) deep has (in_depth n)
    where
      here : i ≡ x → (k : ℕ) × HasDepth k x × (k ≤ suc n)
      here same = (suc n, subst (HasDepth (suc n)) same deep, omega arith)

      by : (o : Option ℕ) → MatchOption o (n ≡ 0) (λ j. HasDepth n j) → Contains (option_map_or (λ j. chain_upto base n j) o [] ++ i ∷ []) x
          → ((j y : ℕ) → HasDepth n j → Contains (chain_upto base n j) y → (k : ℕ) × HasDepth k y × (k ≤ n)) → (k : ℕ) × HasDepth k x × (k ≤ suc n)
      by None root there upper = ⊎_elim (λ (no : Contains [] x). absurd (contains_nil x no)) here (Contains-push_cases [] i x there)
      by (Some j) below there upper = ⊎_elim
          (λ (above : Contains (chain_upto base n j) x). let found = upper j x below above in let few : found.0 ≤ n = found.2 in (found.0, found.1, omega arith))
          here
          (Contains-push_cases (chain_upto base n j) i x there)

  depth_apart : (n i : ℕ) → HasDepth n i → AllPairs (λ a b. a ≢ b) (chain_upto base n i)
  depth_apart zero i deep = absurd deep
  depth_apart (suc n) i deep = by (base i) deep (depth_apart n)
    where
      other : (j : ℕ) → HasDepth n j → (x : ℕ) → Contains (chain_upto base n j) x → x ≢ i
      other j below x there same =
          let found = in_depth n j x below there in
          let few : found.0 ≤ n = found.2 in
          let once : suc n ≡ found.0 = depth_once (suc n) found.0 i deep (subst (HasDepth found.0) same found.1) in
          omega (arith, few, once)

      by : (o : Option ℕ) → MatchOption o (n ≡ 0) (λ j. HasDepth n j) → ((j : ℕ) → HasDepth n j → AllPairs (λ a b. a ≢ b) (chain_upto base n j))
          → AllPairs (λ a b. a ≢ b) (option_map_or (λ j. chain_upto base n j) o [] ++ i ∷ [])
      by None root upper = λ a b d below within. absurd (omega arith)
      by (Some j) below upper = all_pairs_push (λ a b. a ≢ b) (chain_upto base n j) i (upper j below)
          (λ k d within. other j below (get_or (chain_upto base n j) k d) (Contains-get_or (chain_upto base n j) k d within))

  depth_length : (n i : ℕ) → HasDepth n i → length (chain_upto base n i) ≡ n
  depth_length zero i deep = absurd deep
  depth_length (suc n) i deep = by (base i) deep (depth_length n)
    where
      by : (o : Option ℕ) → MatchOption o (n ≡ 0) (λ j. HasDepth n j) → ((j : ℕ) → HasDepth n j → length (chain_upto base n j) ≡ n)
          → length (option_map_or (λ j. chain_upto base n j) o [] ++ i ∷ []) ≡ suc n
      by None root upper = ap suc (sym root)
      by (Some j) below upper = length-append (chain_upto base n j) (i ∷ []) ∙ (let known : length (chain_upto base n j) ≡ n = upper j below in let w : length (chain_upto base n j) + 1 ≡ suc n = omega (arith, known) in w)

  -- no place stands deeper than there are places
  pub few_deep : (count n i : ℕ) → HasDepth n i → ((x : ℕ) → Contains (chain_upto base n i) x → x < count) → n ≤ count
  few_deep count n i deep below =
      let few : length (chain_upto base n i) ≤ count = few_apart base (chain_upto base n i) count (depth_apart n i deep) below in
      let same : length (chain_upto base n i) ≡ n = depth_length n i deep in
      omega (arith, few, same)

  -- what stands above is less deep
  depth_above : (n i x : ℕ) → HasDepth n i → IsAncestor base i x → (k : ℕ) × HasDepth k x × (k < n)
  depth_above n i x deep (direct _ _ is) = let up = depth_base n i x is deep in let more : n ≡ up.0 + 1 = up.2 in (up.0, up.1, omega (arith, more))
  depth_above n i x deep (further _ j _ is rest) =
      let up = depth_base n i j is deep in
      let more : n ≡ up.0 + 1 = up.2 in
      let upper = depth_above up.0 j x up.1 rest in
      let less : upper.0 < up.0 = upper.2 in
      (upper.0, upper.1, omega (arith, more, less))

  -- so what has a depth isn't above itself
  pub depth_never : (n i : ℕ) → HasDepth n i → ¬ IsAncestor base i i
  depth_never n i deep above =
      let upper = depth_above n i i deep above in
      let less : upper.0 < n = upper.2 in
      let once : n ≡ upper.0 = depth_once n upper.0 i deep upper.1 in
      omega (arith, less, once)
