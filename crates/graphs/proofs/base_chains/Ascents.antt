-- The way up from a place to its root, over all that stand above it.
use Rattle.std.proofs.Common.{◌≡◌, ◌≢◌, ◌⊎◌, ⊎_elim, inl, inr, ℕ, ◌+◌, ◌<◌, List, [], ◌∷◌, ◌++◌, length, get_or, AllPairs, Contains, MatchOption, Option, Some, None, refl, sym, ap, subst, ◌∙◌, arith}
use Rattle.std.specs.Option.{option_map_or}
use Rattle.std.proofs.lemmas.List.{length-append}
use Rattle.std.proofs.lemmas.List.Elements.{Contains-append_left, Contains-get_or, Contains-push, Contains-push_cases}
use Rattle.std.proofs.lemmas.List.Quantifiers.{all_pairs_push}
use Rattle.graphs.specs.base_chains.Chains.{IsAncestor, direct, further, StandAbove, StaysWithin, chain}
use Rattle.graphs.proofs.base_chains.Chains.{chain_root, chain_step, ends}
use Rattle.emc_base.proofs.Members.{contains_nil}

module _ (base : ℕ → Option ℕ) where
  -- a place is the next one, or stands above it
  abbrev pub IsLeft : Option ℕ → ℕ → Type 0
  IsLeft next i = MatchOption next ⊥ (λ j. (i ≡ j) ⊎ IsAncestor base j i)

  -- what stands above was passed or is left, and no other place
  pub record IsAscent (place : ℕ) (passed : List ℕ) (next : Option ℕ) : Type 0 where
    pub each : (i : ℕ) → IsAncestor base place i → Contains passed i ⊎ IsLeft next i
    pub only : (i : ℕ) → Contains passed i → IsAncestor base place i
    pub left : (j : ℕ) → next ≡ Some j → IsAncestor base place j
    pub once : AllPairs (λ i j. i ≢ j) passed
    pub below : (i j : ℕ) → Contains passed i → next ≡ Some j → IsAncestor base i j

  -- what stands above is the base or stands above it
  above_cases : (place i : ℕ) → IsAncestor base place i → IsLeft (base place) i
  above_cases place i (direct _ _ is) = subst (λ (o : Option ℕ). IsLeft o i) (sym is) (inl refl)
  above_cases place i (further _ j _ is rest) = subst (λ (o : Option ℕ). IsLeft o i) (sym is) (inr rest)

  pub ascent_start : (place : ℕ) → IsAscent place [] (base place)
  ascent_start place = record {
    each = λ i above. inr (above_cases place i above);
    only = λ i has. absurd (contains_nil i has);
    left = λ j is. direct place j is;
    once = λ a b d before within. absurd (omega arith);
    below = λ i j has is. absurd (contains_nil i has);
  }

  -- one place further
  pub ascent_more : ((x : ℕ) → ¬ IsAncestor base x x) → (place : ℕ) (passed : List ℕ) (next : Option ℕ) (j : ℕ) → next ≡ Some j → IsAscent place passed next
      → IsAscent place (passed ++ j ∷ []) (base j)
  ascent_more rooted place passed next j is ascent = record {
    each = λ i above. ⊎_elim
        (λ (had : Contains passed i). inl (Contains-append_left passed (j ∷ []) i had))
        (λ (later : IsLeft next i). ⊎_elim
        (λ (same : i ≡ j). inl (subst (λ (k : ℕ). Contains (passed ++ j ∷ []) k) (sym same) (Contains-push passed j)))
        (λ (upper : IsAncestor base j i). inr (above_cases j i upper))
        (subst (λ (o : Option ℕ). IsLeft o i) is later))
        (ascent.each i above);
    only = λ i has. ⊎_elim
        (λ (had : Contains passed i). ascent.only i had)
        (λ (same : j ≡ i). subst (λ (k : ℕ). IsAncestor base place k) same (ascent.left j is))
        (Contains-push_cases passed j i has);
    left = λ k up. above_next place j k (ascent.left j is) up;
    once = all_pairs_push (λ a b. a ≢ b) passed j ascent.once (λ k d within. other (get_or passed k d) (Contains-get_or passed k d within));
    below = λ i k has up. ⊎_elim
        (λ (had : Contains passed i). above_next i j k (ascent.below i j had is) up)
        (λ (same : j ≡ i). subst (λ (x : ℕ). IsAncestor base x k) same (direct j k up))
        (Contains-push_cases passed j i has);
  }
    where
      other : (x : ℕ) → Contains passed x → x ≢ j
      other x has same = rooted j (subst (λ (y : ℕ). IsAncestor base y j) same (ascent.below x j has is))

      above_next : (place j k : ℕ) → IsAncestor base place j → base j ≡ Some k → IsAncestor base place k
      above_next place j k (direct _ _ one) up = further place j k one (direct j k up)
      above_next place j k (further _ m _ one rest) up = further place m k one (above_next m j k rest up)

  -- at the root all were passed
  pub ascent_all : (place : ℕ) (passed : List ℕ) (next : Option ℕ) → next ≡ None → IsAscent place passed next → StandAbove base place passed
  ascent_all place passed next none ascent = record {
    each = λ i. (
      ascent.only i,
      λ above. ⊎_elim
          (λ (had : Contains passed i). had)
          (λ (later : IsLeft next i). absurd (subst (λ (o : Option ℕ). IsLeft o i) none later))
          (ascent.each i above),
    );
    once = ascent.once;
  }

  -- how many places are left
  abbrev pub left_count : ℕ → Option ℕ → ℕ
  left_count count next = option_map_or (λ j. length (chain base count j)) next 0

  -- fewer, one place further
  pub left_fewer : ((x : ℕ) → ¬ IsAncestor base x x) → (count : ℕ) → StaysWithin base count → (place j : ℕ) (passed : List ℕ) (next : Option ℕ) → next ≡ Some j
      → IsAscent place passed next → left_count count (base j) < left_count count next
  left_fewer rooted count within place j passed next is ascent = subst (λ (o : Option ℕ). left_count count (base j) < left_count count o) (sym is) (by (base j) refl)
    where
      inside : j < count
      inside = last place j (ascent.left j is)
        where
          last : (place j : ℕ) → IsAncestor base place j → j < count
          last place j (direct _ _ one) = within place j one
          last place j (further _ m _ one rest) = last m j rest

      by : (o : Option ℕ) → base j ≡ o → left_count count o < length (chain base count j)
      by None root = let one : length (chain base count j) ≡ 1 = ap (λ (xs : List ℕ). length xs) (chain_root base count j (ends base rooted count within j inside) root) in omega arith
      by (Some k) up =
          let longer : length (chain base count j) ≡ length (chain base count k) + 1 =
          ap (λ (xs : List ℕ). length xs) (chain_step base count j k (ends base rooted count within j inside) up) ∙ length-append (chain base count k) (j ∷ []) in
          omega arith
