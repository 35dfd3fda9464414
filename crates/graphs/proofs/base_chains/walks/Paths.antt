-- Paths along bases: one more place, what stands above what, and which places of a path lie on a cycle.
use Rattle.std.proofs.Common.{◌≡◌, ◌≢◌, ◌⊎◌, ⊎_elim, inl, inr, ℕ, zero, suc, List, [], ◌∷◌, ◌++◌, drop, All, AllPairs, Contains, Option, Some, refl, sym, ap, subst, ◌∙◌}
use Rattle.std.proofs.lemmas.List.Elements.{All-head, All-tail}
use Rattle.emc_base.specs.Lists.{At}
use Rattle.emc_base.proofs.Mapped.{contains_at}
use Rattle.graphs.specs.base_chains.Chains.{IsAncestor, direct, further}
use Rattle.graphs.specs.base_chains.Climbs.{IsPath}
use Rattle.graphs.proofs.base_chains.Chains.{above_above, closed_ancestors}
use Rattle.emc_base.proofs.Members.{apart_head, apart_tail, contains_cons_cases, contains_head, contains_nil, contains_tail}

module _ (base : ℕ → Option ℕ) where
  -- a path goes on over its exit
  pub path_more : (start : Option ℕ) (path : List ℕ) (place : ℕ) → IsPath base start path (Some place) → IsPath base start (path ++ place ∷ []) (base place)
  path_more start [] place is = (is, refl)
  path_more start (x ∷ path) place is = (is.0, path_more (base x) path place is.1)

  -- the exit stands above the place from whose base a path begins
  pub exit_above : (x : ℕ) (path : List ℕ) (e : ℕ) → IsPath base (base x) path (Some e) → IsAncestor base x e
  exit_above x [] e is = direct x e is
  exit_above x (y ∷ path) e is = further x y e is.0 (exit_above y path e is.1)

  -- the exit stands above each place of a path
  pub exit_above_each : (start : Option ℕ) (path : List ℕ) (e x : ℕ) → IsPath base start path (Some e) → Contains path x → IsAncestor base x e
  exit_above_each start [] e x is has = absurd (contains_nil x has)
  exit_above_each start (y ∷ path) e x is has = ⊎_elim
      (λ (same : x ≡ y). let P : ℕ → Type 0 = λ z. IsAncestor base z e in subst P (sym same) (exit_above y path e is.1))
      (λ (rest : Contains path x). exit_above_each (base y) path e x is.1 rest)
      (contains_cons_cases y path x has)

  -- each place of a path stands above the place from whose base it begins
  pub each_above : (x : ℕ) (path : List ℕ) (exit : Option ℕ) (y : ℕ) → IsPath base (base x) path exit → Contains path y → IsAncestor base x y
  each_above x [] exit y is has = absurd (contains_nil y has)
  each_above x (z ∷ path) exit y is has = ⊎_elim
      (λ (same : y ≡ z). direct x y (is.0 ∙ ap Some (sym same)))
      (λ (rest : Contains path y). further x z y is.0 (each_above z path exit y is.1 rest))
      (contains_cons_cases z path y has)

  -- the base of the place before a path stands in the path, or is its exit
  pub next_of : (x : ℕ) (path : List ℕ) (exit : Option ℕ) (j : ℕ) → IsPath base (base x) path exit → base x ≡ Some j → Contains path j ⊎ (exit ≡ Some j)
  next_of x [] exit j is next = inr (sym is ∙ next)
  next_of x (y ∷ path) exit j is next = let same : y ≡ j = cc in let P : ℕ → Type 0 = λ z. Contains (y ∷ path) z in inl (subst P same (contains_head y path))

  -- so it is for each place of a path
  pub path_closed : (start : Option ℕ) (path : List ℕ) (exit : Option ℕ) (x j : ℕ) → IsPath base start path exit → Contains path x → base x ≡ Some j → Contains path j ⊎ (exit ≡ Some j)
  path_closed start [] exit x j is has next = absurd (contains_nil x has)
  path_closed start (y ∷ path) exit x j is has next = ⊎_elim
      (λ (here : Contains path j). inl (contains_tail y path j here))
      (λ (out : exit ≡ Some j). inr out)
      (⊎_elim
      (λ (same : x ≡ y). next_of y path exit j is.1 (ap base (sym same) ∙ next))
      (λ (rest : Contains path x). path_closed (base y) path exit x j is.1 rest next)
      (contains_cons_cases y path x has))

  -- the rest of a path from one of its places on
  rest_at : (start : Option ℕ) (path : List ℕ) (exit : Option ℕ) (n x : ℕ) → IsPath base start path exit → At path n x
      → (rest : List ℕ) × (drop n path ≡ x ∷ rest) × IsPath base (base x) rest exit
  rest_at start [] exit n x is at = absurd cc
  rest_at start (y ∷ path) exit zero x is at = let same : y ≡ x = cc in let P : ℕ → Type 0 = λ z. IsPath base (base z) path exit in
      (path, ap (λ z. z ∷ path) same, subst P same is.1)
  rest_at start (y ∷ path) exit (suc n) x is at = rest_at (base y) path exit n x is.1 at

  -- from the exit on, each place of a path stands above itself
  pub on_cycle : (start : Option ℕ) (path : List ℕ) (n e x : ℕ) → IsPath base start path (Some e) → At path n e → Contains (drop n path) x → IsAncestor base x x
  on_cycle start path n e x is at has = by (rest_at start path (Some e) n e is at)
    where
      by : (rest : List ℕ) × (drop n path ≡ e ∷ rest) × IsPath base (base e) rest (Some e) → IsAncestor base x x
      by (rest, same, leads) =
          let P : List ℕ → Type 0 = λ xs. Contains xs x in
          ⊎_elim
          (λ (first : x ≡ e). let Q : ℕ → Type 0 = λ z. IsAncestor base z z in subst Q (sym first) (exit_above e rest e leads))
          (λ (later : Contains rest x). above_above base x e x (exit_above_each (base e) rest e x leads later) (each_above e rest (Some e) x leads later))
          (contains_cons_cases e rest x (subst P same has))

  module _ (Seen : ℕ → Type 0) (closed : (x j : ℕ) → Seen x → base x ≡ Some j → Seen j) where
    -- a place from which a path leads into what is seen, or back into itself, stands not above itself where it is neither
    leads_away : (x : ℕ) (path : List ℕ) (exit : Option ℕ) → IsPath base (base x) path exit → ((j : ℕ) → exit ≡ Some j → Seen j ⊎ Contains path j)
        → ¬ Seen x → ¬ Contains path x → ¬ IsAncestor base x x
    leads_away x path exit is out fresh apart above = ⊎_elim fresh apart (closed_ancestors base Inside up x x start above)
      where
        Inside : ℕ → Type 0
        Inside y = Seen y ⊎ Contains path y

        from_path : (j : ℕ) → Contains path j ⊎ (exit ≡ Some j) → Seen j ⊎ Contains path j
        from_path j = ⊎_elim (λ (here : Contains path j). inr here) (λ (end : exit ≡ Some j). out j end)

        up : (y j : ℕ) → Seen y ⊎ Contains path y → base y ≡ Some j → Seen j ⊎ Contains path j
        up y j held next = ⊎_elim
            (λ (seen : Seen y). inl (closed y j seen next))
            (λ (here : Contains path y). from_path j (path_closed (base x) path exit y j is here next))
            held

        start : (j : ℕ) → base x ≡ Some j → Seen j ⊎ Contains path j
        start j next = from_path j (next_of x path exit j is next)

    -- a place of a path that stands above itself stands behind the exit
    pub only_cycle : (start : Option ℕ) (path : List ℕ) (n e x : ℕ) → IsPath base start path (Some e) → At path n e
        → All (λ i. ¬ Seen i) path → AllPairs (λ i j. i ≢ j) path → Contains path x → IsAncestor base x x → Contains (drop n path) x
    only_cycle start [] n e x is at fresh apart has above = absurd (contains_nil x has)
    only_cycle start (y ∷ path) zero e x is at fresh apart has above = has
    only_cycle start (y ∷ path) (suc n) e x is at fresh apart has above = ⊎_elim
        (λ (same : x ≡ y). let P : ℕ → Type 0 = λ z. IsAncestor base z z in
        absurd (leads_away y path (Some e) is.1 (λ j out. let at_j : At path n j = at ∙ out in inr (contains_at path n j at_j))
        (All-head (λ i. ¬ Seen i) y path fresh) (apart_head y path apart) (subst P same above)))
        (λ (rest : Contains path x). only_cycle (base y) path n e x is.1 at (All-tail (λ i. ¬ Seen i) y path fresh) (apart_tail y path apart) rest above)
        (contains_cons_cases y path x has)

    -- no place of a path stands above itself where the exit is seen, or there is none
    pub no_cycle : (start : Option ℕ) (path : List ℕ) (exit : Option ℕ) (x : ℕ) → IsPath base start path exit → ((j : ℕ) → exit ≡ Some j → Seen j)
        → All (λ i. ¬ Seen i) path → AllPairs (λ i j. i ≢ j) path → Contains path x → ¬ IsAncestor base x x
    no_cycle start [] exit x is out fresh apart has above = contains_nil x has
    no_cycle start (y ∷ path) exit x is out fresh apart has above = ⊎_elim
        (λ (same : x ≡ y). let P : ℕ → Type 0 = λ z. IsAncestor base z z in
        leads_away y path exit is.1 (λ j end. inl (out j end)) (All-head (λ i. ¬ Seen i) y path fresh) (apart_head y path apart) (subst P same above))
        (λ (rest : Contains path x). no_cycle (base y) path exit x is.1 out (All-tail (λ i. ¬ Seen i) y path fresh) (apart_tail y path apart) rest above)
        (contains_cons_cases y path x has)
