-- A walk along all bases, one place further, and what is known after the last.
use Rattle.std.proofs.Common.{◌≡◌, ◌≢◌, ◌⊎◌, ⊎_elim, inl, inr, ℕ, ◌+◌, ◌<◌, ◌≤◌, min, Bool, true, List, [], ◌∷◌, ◌++◌, append-nil, get_or, length, reverse, take, All, AllPairs, Contains, Option, Some, None, refl, sym, ap, subst, ◌∙◌, arith}
use Rattle.std.proofs.lemmas.Bool.{cases_eq, cases_lt}
use Rattle.std.proofs.lemmas.List.{take_at, take-append-le}
use Rattle.std.proofs.lemmas.Option.{slice_get_within}
use Rattle.std.proofs.lemmas.List.Elements.{All-append, All-contains, All-head, All-weaker, Contains-append_left, Contains-append_right}
use Rattle.emc_base.specs.Lists.{At}
use Rattle.emc_base.proofs.Lists.{all_from_members}
use Rattle.graphs.specs.base_chains.Chains.{IsAncestor, StaysWithin}
use Rattle.graphs.specs.base_chains.Climbs.{IsClimb, IsPath, IsSeen, cycle_of}
use Rattle.graphs.specs.base_chains.Walks.{IsBasesFirst, IsFirst, earlier}
use Rattle.graphs.proofs.base_chains.walks.Climbs.{cycle_in_path, on_its_cycle}
use Rattle.graphs.proofs.base_chains.Chains.{closed_ancestors}
use Rattle.emc_base.proofs.Members.{apart_reversed, at_push_cases, behind_reversed, contains_reverse, contains_reversed}
use Rattle.graphs.proofs.base_chains.walks.Paths.{exit_above_each, next_of, path_closed}

-- the first of which one or the other holds
pub first_of_both : (P Q : ℕ → Type 0) (one other : Option ℕ) → IsFirst P one → IsFirst Q other → IsFirst (λ i. P i ⊎ Q i) (earlier one other)
first_of_both P Q None None no_one no_other = λ i. ⊎_elim (no_one i) (no_other i)
first_of_both P Q None (Some other) no_one is_other = (inr is_other.0, λ i. ⊎_elim (λ holds. absurd (no_one i holds)) (is_other.1 i))
first_of_both P Q (Some one) None is_one no_other = (inl is_one.0, λ i. ⊎_elim (is_one.1 i) (λ holds. absurd (no_other i holds)))
first_of_both P Q (Some one) (Some other) is_one is_other = ⊎_elim
    (λ (below : one < other). let least : one ≡ min one other = omega arith in subst Least least (
      inl is_one.0,
      λ i. ⊎_elim
          (is_one.1 i)
          (λ (holds : Q i). let after : other ≤ i = is_other.1 i holds in omega arith),
    ))
    (λ (above : other ≤ one). let least : other ≡ min one other = omega arith in subst Least least (
      inr is_other.0,
      λ i. ⊎_elim
          (λ (holds : P i). let after : one ≤ i = is_one.1 i holds in omega arith)
          (is_other.1 i),
    ))
    (cases_lt one other)
  where
    Least : ℕ → Type 0
    Least n = (P n ⊎ Q n) × ((i : ℕ) → P i ⊎ Q i → n ≤ i)

pub first_same : (P Q : ℕ → Type 0) (found : Option ℕ) → ((i : ℕ) → P i → Q i) → ((i : ℕ) → Q i → P i) → IsFirst P found → IsFirst Q found
first_same P Q None to back none = λ i holds. none i (back i holds)
first_same P Q (Some first) to back is = (to first is.0, λ i holds. is.1 i (back i holds))

module _ (base : ℕ → Option ℕ) where
  -- each of these places stands after its base
  abbrev IsBased : List ℕ → Type 0
  IsBased places = (k i j : ℕ) → At places k i → base i ≡ Some j → Contains (take k places) j

  based_push : (places : List ℕ) (x : ℕ) → IsBased places → ((j : ℕ) → base x ≡ Some j → Contains places j) → IsBased (places ++ x ∷ [])
  based_push places x based above k i j at next = ⊎_elim
      (λ (old : At places k i).
      let k_in : k < length places = slice_get_within places k i old in
      let k_le : k ≤ length places = omega arith in
      subst Held (sym (take-append-le k places (x ∷ []) k_le)) (based k i j old next))
      (λ (last : (k ≡ length places) × (i ≡ x)). subst Held (sym (take_at places (x ∷ []) k (sym last.0))) (above j (ap base (sym last.1) ∙ next)))
      (at_push_cases places x k i at)
    where
      Held : List ℕ → Type 0
      Held xs = Contains xs j

  -- a path behind places that have its exit, its last place first
  based_more : (places : List ℕ) (start : Option ℕ) (path : List ℕ) (exit : Option ℕ) → IsPath base start path exit → ((j : ℕ) → exit ≡ Some j → Contains places j)
      → IsBased places → IsBased (places ++ reverse path)
  based_more places start [] exit is out based = let P : List ℕ → Type 0 = λ xs. IsBased xs in subst P (sym (append-nil places)) based
  based_more places start (x ∷ path) exit is out based = let P : List ℕ → Type 0 = λ xs. IsBased xs in
      subst P (sym (behind_reversed places x path)) (based_push (places ++ reverse path) x (based_more places (base x) path exit is.1 out based) above)
    where
      above : (j : ℕ) → base x ≡ Some j → Contains (places ++ reverse path) j
      above j next = ⊎_elim
          (λ (here : Contains path j). Contains-append_right places (reverse path) j (contains_reverse path j here))
          (λ (end : exit ≡ Some j). Contains-append_left places (reverse path) j (out j end))
          (next_of base x path exit j is.1 next)

  -- a walk over the places below a number: what was seen, in order, and the first of it that stands above itself
  pub record IsWalking (count n : ℕ) (seen : List Bool) (order : List ℕ) (first : Option ℕ) : Type 0 where
    pub size : length seen ≡ count
    pub passed : (i : ℕ) → i < n → IsSeen seen i
    pub closed : (i j : ℕ) → IsSeen seen i → base i ≡ Some j → IsSeen seen j
    pub marked : All (IsSeen seen) order
    pub each : (i : ℕ) → IsSeen seen i → Contains order i
    pub once : AllPairs (λ i j. i ≢ j) order
    pub least : IsFirst (λ i. IsSeen seen i × IsAncestor base i i) first
    pub before : first ≡ None → IsBased order

  module _ (count n : ℕ) (seen after : List Bool) (order path : List ℕ) (first found exit : Option ℕ) where
    from_seen : (way : List ℕ) → IsPath base (Some n) way exit → All (IsSeen after) way → ((j : ℕ) → exit ≡ Some j → IsSeen after j) → IsSeen after n
    from_seen [] is marked ends = ends n (sym is)
    from_seen (x ∷ way) is marked ends = let same : n ≡ x = cc in let P : ℕ → Type 0 = λ i. IsSeen after i in subst P (sym same) (All-head (IsSeen after) x way marked)

    -- what is nothing in both is nothing in each
    none_earlier : (one other : Option ℕ) → earlier one other ≡ None → (one ≡ None) × (other ≡ None)
    none_earlier None None none = (refl, refl)
    none_earlier None (Some other) none = absurd cc
    none_earlier (Some one) None none = absurd cc
    none_earlier (Some one) (Some other) none = absurd cc

    -- one way up more
    pub walk_more : IsWalking count n seen order first → IsClimb base n seen after path exit → IsFirst (Contains (cycle_of path exit)) found
        → IsWalking count (n + 1) after (order ++ reverse path) (earlier first found)
    walk_more walk climb cycle = record {
      size = climb.0.size ∙ walk.size;
      passed = λ i below. ⊎_elim
          (λ (same : i ≡ n). let P : ℕ → Type 0 = λ j. IsSeen after j in subst P (sym same) (from_seen path climb.0.climbed climb.0.marked climb.1))
          (λ (other : i ≢ n). climb.0.kept i (walk.passed i (omega arith)))
          (cases_eq i n);
      closed = λ i j is next. ⊎_elim
          (λ (old : IsSeen seen i). climb.0.kept j (walk.closed i j old next))
          (λ (here : Contains path i). ⊎_elim
          (λ (rest : Contains path j). marked j rest)
          (λ (end : exit ≡ Some j). climb.1 j end)
          (path_closed base (Some n) path exit i j climb.0.climbed here next))
          (climb.0.only i is);
      marked = All-append (IsSeen after) order (reverse path)
          (All-weaker (IsSeen seen) (IsSeen after) climb.0.kept order walk.marked)
          (all_from_members (IsSeen after) (reverse path) (λ i has. marked i (contains_reversed path i has)));
      each = λ i is. ⊎_elim
          (λ (old : IsSeen seen i). Contains-append_left order (reverse path) i (walk.each i old))
          (λ (here : Contains path i). Contains-append_right order (reverse path) i (contains_reverse path i here))
          (climb.0.only i is);
      once = apart_reversed order path
          (λ i here old. All-contains (λ j. ¬ IsSeen seen j) path i climb.0.fresh here (All-contains (IsSeen seen) order i walk.marked old))
          climb.0.once walk.once;
      least = first_same (λ i. (IsSeen seen i × IsAncestor base i i) ⊎ Contains (cycle_of path exit) i) (λ i. IsSeen after i × IsAncestor base i i)
          (earlier first found) to back
          (first_of_both (λ i. IsSeen seen i × IsAncestor base i i) (Contains (cycle_of path exit)) first found walk.least cycle);
      before = λ none. based_more order (Some n) path exit climb.0.climbed (exit_ordered (none_earlier first found none).1) (walk.before (none_earlier first found none).0);
    }
      where
        marked : (i : ℕ) → Contains path i → IsSeen after i
        marked i here = All-contains (IsSeen after) path i climb.0.marked here

        to : (i : ℕ) → (IsSeen seen i × IsAncestor base i i) ⊎ Contains (cycle_of path exit) i → IsSeen after i × IsAncestor base i i
        to i = ⊎_elim
            (λ old. (climb.0.kept i old.0, old.1))
            (λ on. let held = cycle_in_path base n seen after path walk.closed exit i climb.0.climbed on in (marked i held.0, held.1))

        back : (i : ℕ) → IsSeen after i × IsAncestor base i i → (IsSeen seen i × IsAncestor base i i) ⊎ Contains (cycle_of path exit) i
        back i held = ⊎_elim
            (λ (old : IsSeen seen i). inl (old, held.1))
            (λ (here : Contains path i). inr (on_its_cycle base n seen after path walk.closed exit i climb here held.1))
            (climb.0.only i held.0)

        no_cycle_here : found ≡ None → (i : ℕ) → ¬ Contains (cycle_of path exit) i
        no_cycle_here none = let P : Option ℕ → Type 0 = λ o. IsFirst (Contains (cycle_of path exit)) o in subst P none cycle

        exit_ordered : found ≡ None → (j : ℕ) → exit ≡ Some j → Contains order j
        exit_ordered none j end = ⊎_elim
            (λ (old : IsSeen seen j). walk.each j old)
            (λ (here : Contains path j). let P : Option ℕ → Type 0 = λ o. IsPath base (Some n) path o in
            absurd (no_cycle_here none j (on_its_cycle base n seen after path walk.closed exit j climb here
            (exit_above_each base (Some n) path j j (subst P end climb.0.climbed) here))))
            (climb.0.only j (climb.1 j end))

  module _ (count : ℕ) (seen : List Bool) (order : List ℕ) (within : StaysWithin base count) where
    -- each place that stands above itself was seen once all were passed
    seen_cycle : (n : ℕ) → count ≤ n → (first : Option ℕ) → IsWalking count n seen order first → (i : ℕ) → IsAncestor base i i → IsSeen seen i
    seen_cycle n end first walk i above =
        let inside : i < count = closed_ancestors base (λ x. x < count) (λ x j _ next. within x j next) i i (within i) above in
        walk.passed i (omega arith)

    -- after the last place
    pub walk_ordered : (n : ℕ) → count ≤ n → IsWalking count n seen order None → ((i : ℕ) → ¬ IsAncestor base i i) × IsBasesFirst base count order
    walk_ordered n end walk = (
      λ i above. walk.least i (seen_cycle n end None walk i above, above),
      record {
        each = λ i inside. walk.each i (walk.passed i (omega arith));
        within = λ k d k_in. let seen_k : IsSeen seen (get_or order k d) = walk.marked k d k_in in
            let inside : get_or order k d < length seen = slice_get_within seen (get_or order k d) true seen_k in
            subst (λ m. get_or order k d < m) walk.size inside;
        once = walk.once;
        before = walk.before refl;
      },
    )

    pub walk_cycle : (n first : ℕ) → count ≤ n → IsWalking count n seen order (Some first) → IsFirst (λ i. IsAncestor base i i) (Some first)
    walk_cycle n first end walk = (walk.least.0.1, λ i above. walk.least.1 i (seen_cycle n end (Some first) walk i above, above))
