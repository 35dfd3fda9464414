-- Keys that rise in one order are apart in every other.
use Rattle.std.proofs.Common.{◌≡◌, ⊎_elim, ◌&&◌, ℕ, zero, suc, ◌+◌, ◌-◌, ◌<◌, ◌≤◌, List, [], ◌∷◌, length, map, filter, get_or, not, cond, Bool, true, false, IsTrue, AllPairs, refl, sym, ap, subst, ◌∙◌, arith}
use Rattle.std.specs.Borrow.{Bor}
use Rattle.std.specs.Cmp.{IsTotalOrder, tied_itself}
use Rattle.std.specs.List.Sorted.{IsStableBy, ties}
use Rattle.std.specs.Ordering.{eq_by_cmp, is_eq, is_lt, ordering_reverse}
use Rattle.std.specs.declared.cmp.Ordering.{Ordering}
use Rattle.std.specs.declared.cmp.Ordering.TheVariants.{Less, Equal, Greater}
use Rattle.std.proofs.lemmas.Bool.{cases_eq}
use Rattle.std.proofs.lemmas.List.Elements.{filter_passes}
use Rattle.std.proofs.lemmas.List.Kept.{AllPairs-filter}
use Rattle.emc_base.proofs.Numbered.{all_pairs_map}

module _ {X : Type 0} (p : X → Bool) where
  -- a test keeps what passes it
  kept_more : (x : X) (rest : List X) (n : ℕ) (b : Bool) → n < length rest → n < length (cond b (x ∷ rest) rest)
  kept_more x rest n true more = omega arith
  kept_more x rest n false more = more

  one_kept : (xs : List X) (j : ℕ) (d : X) → j < length xs → p (get_or xs j d) ≡ true → 0 < length (filter p xs)
  one_kept [] j d within passes = absurd (omega arith)
  one_kept (x ∷ xs) zero d within passes = subst (λ b. 0 < length (cond b (x ∷ filter p xs) (filter p xs))) (sym passes) (omega arith)
  one_kept (x ∷ xs) (suc j) d within passes = kept_more x (filter p xs) 0 (p x) (one_kept xs j d (omega arith) passes)

  -- two that pass it are two that are kept
  two_kept : (xs : List X) (i j : ℕ) (d : X) → i < j → j < length xs → p (get_or xs i d) ≡ true → p (get_or xs j d) ≡ true → 1 < length (filter p xs)
  two_kept [] i j d before within one other = absurd (omega arith)
  two_kept (x ∷ xs) i zero d before within one other = absurd (omega arith)
  two_kept (x ∷ xs) zero (suc j) d before within one other =
      let rest : 0 < length (filter p xs) = one_kept xs j d (omega arith) other in
      subst (λ b. 1 < length (cond b (x ∷ filter p xs) (filter p xs))) (sym one) (omega arith)
  two_kept (x ∷ xs) (suc i) (suc j) d before within one other = kept_more x (filter p xs) 1 (p x) (two_kept xs i j d (omega arith) (omega arith) one other)

module _ {K : Type 0} (cmp : K → K → Ordering) where
  -- the first so many keys rise
  abbrev pub RisesTo : List (Bor K) → ℕ → Type 0
  RisesTo keys n = (i j : ℕ) (d : Bor K) → i < j → j < n → cmp (get_or keys i d).now (get_or keys j d).now ≡ Less

  pub rises_start : (keys : List (Bor K)) → RisesTo keys 1
  rises_start keys i j d before below = absurd (omega arith)

module _ {K : Type 0} (cmp : K → K → Ordering) (total : IsTotalOrder cmp) where
  -- and one more does, which is greater than the one before it
  pub rises_more : (keys : List (Bor K)) (n : ℕ) → 1 ≤ n → ((d : Bor K) → cmp (get_or keys (n - 1) d).now (get_or keys n d).now ≡ Less) → RisesTo cmp keys n
      → RisesTo cmp keys (n + 1)
  rises_more keys n some next rises i j d before below = ⊎_elim
      (λ (last : j ≡ n). subst (λ (k : ℕ). cmp (get_or keys i d).now (get_or keys k d).now ≡ Less) (sym last) (⊎_elim
      (λ (same : i ≡ n - 1). subst (λ (k : ℕ). cmp (get_or keys k d).now (get_or keys n d).now ≡ Less) (sym same) (next d))
      (λ other. total.trans (get_or keys i d).now (get_or keys (n - 1) d).now (get_or keys n d).now (rises i (n - 1) d (omega arith) (omega arith)) (next d))
      (cases_eq i (n - 1))))
      (λ earlier. rises i j d before (omega arith))
      (cases_eq j n)

  abbrev Before : Bor K → Bor K → Bool
  Before one other = is_lt (cmp one.now other.now)

  abbrev Rises : Bor K → Bor K → Type 0
  Rises one later = cmp one.now later.now ≡ Less

  abbrev Apart : K → K → Type 0
  Apart one other = ¬ IsTrue (eq_by_cmp cmp one other)

  -- what ties is neither less nor greater
  tied : (order : Ordering) → is_eq order ≡ true → (not (is_lt order) && not (is_lt (ordering_reverse order))) ≡ true
  tied Less told = cc
  tied Equal told = refl
  tied Greater told = cc

  untied : (order : Ordering) → (not (is_lt order) && not (is_lt (ordering_reverse order))) ≡ true → order ≡ Equal
  untied Less told = cc
  untied Equal told = refl
  untied Greater told = cc

  ties_of : (x y : Bor K) → is_eq (cmp x.now y.now) ≡ true → ties Before x y ≡ true
  ties_of x y told = ap (λ order. not (is_lt (cmp x.now y.now)) && not (is_lt order)) (total.antisymm y.now x.now) ∙ tied (cmp x.now y.now) told

  equal_of : (x y : Bor K) → ties Before x y ≡ true → cmp x.now y.now ≡ Equal
  equal_of x y told = untied (cmp x.now y.now) (sym (ap (λ order. not (is_lt (cmp x.now y.now)) && not (is_lt order)) (total.antisymm y.now x.now)) ∙ told)

  -- of keys that tie with one, no two rise
  few : (x : Bor K) (kept : List (Bor K)) → ((k : ℕ) (d : Bor K) → k < length kept → ties Before x (get_or kept k d) ≡ true) → AllPairs Rises kept → 1 < length kept → ⊥
  few x kept all rises more =
      let one : cmp x.now (get_or kept 0 x).now ≡ Equal = equal_of x (get_or kept 0 x) (all 0 x (omega arith)) in
      let other : cmp x.now (get_or kept 1 x).now ≡ Equal = equal_of x (get_or kept 1 x) (all 1 x more) in
      let less : cmp (get_or kept 0 x).now (get_or kept 1 x).now ≡ Less = rises 0 1 x (omega arith) more in
      let equal : cmp (get_or kept 0 x).now (get_or kept 1 x).now ≡ Equal = sym (total.congr x.now (get_or kept 0 x).now (get_or kept 1 x).now one) ∙ other in
      not_both (cmp (get_or kept 0 x).now (get_or kept 1 x).now) less equal
    where
      not_both : (order : Ordering) → order ≡ Less → order ≡ Equal → ⊥
      not_both Less less equal = cc
      not_both Equal less equal = cc
      not_both Greater less equal = cc

  -- keys that rise in a stable order are apart as they stood
  pub apart_as_sorted : (keys : List K) (lent sorted : List (Bor K)) → map (λ key. key.now) lent ≡ keys → IsStableBy Before lent sorted → AllPairs Rises sorted
      → AllPairs Apart keys
  apart_as_sorted keys lent sorted are stable rises = subst (AllPairs Apart) are (all_pairs_map Apart (λ (key : Bor K). key.now) lent apart)
    where
      apart : AllPairs (λ (one other : Bor K). Apart one.now other.now) lent
      apart i j d before within same =
          let x : Bor K = get_or lent i d in
          let own : ties Before x x ≡ true = ties_of x x (ap is_eq (tied_itself total x.now)) in
          let two : 1 < length (filter (ties Before x) lent) = two_kept (ties Before x) lent i j d before within own (ties_of x (get_or lent j d) same) in
          few x (filter (ties Before x) sorted) (filter_passes (ties Before x) sorted) (AllPairs-filter Rises (ties Before x) sorted rises)
          (subst (λ (kept : List (Bor K)). 1 < length kept) (sym (stable x)) two)
