-- A search whose last group has an arrow to an earlier one: the last two groups become one; and an end that needs nothing more is left out.
use Rattle.std.proofs.Common.{◌≡◌, ◌⊎◌, inl, inr, ℕ, ◌-◌, ◌<◌, ◌≤◌, List, length, take, min, ap, subst, arith}
use Rattle.std.proofs.lemmas.Bool.{cases_eq, cases_lt}
use Rattle.std.proofs.lemmas.List.{length-take}
use Rattle.std.proofs.lemmas.Option.{slice_get_within}
use Rattle.emc_base.specs.Lists.{At}
use Rattle.graphs.specs.arrow_cycles.Numbers.{Reaches}
use Rattle.graphs.specs.arrow_cycles.Searches.{IsHeeded, IsSearch, IsTogether, IsTop, complete, later, onward}
use Rattle.graphs.specs.declared.arrow_cycles.search.Group.{Group}
use Rattle.graphs.specs.declared.arrow_cycles.search.Mark.{Mark}
use Rattle.graphs.specs.declared.arrow_cycles.search.Mark.TheVariants.{OnPath, Closed}
use Rattle.graphs.proofs.arrow_cycles.Places.{at_take, at_taken}
use Rattle.graphs.proofs.arrow_cycles.Reaching.{reaches_arrow, reaches_reaches}

module _ (Is : ℕ → ℕ → Type 0) (marks : List Mark) (path : List ℕ) (groups : List Group) (pending : List ℕ) (number : ℕ)
    (search : IsSearch Is marks path groups pending number) (top : Group) (is_top : IsTop groups top) where
  -- no group begins behind the last one
  pub up_to_top : (i : ℕ) (group : Group) → At groups i group → (group.path ≤ top.path) × (group.pending ≤ top.pending)
  up_to_top i group at =
      let inside : i < length groups = slice_get_within groups i group at in
      search.ordered i (length groups - 1) group top at is_top (omega (arith, inside))

  -- positions from the beginning of the last group on aren't parted from any
  pub top_together : (p q : ℕ) → top.path ≤ q → IsTogether groups p q
  top_together p q le i group at begins =
      let most : group.path ≤ top.path = (up_to_top i group at).0 in
      omega (arith, le, most)

  -- a group that begins before the last one is one of those that are left without it
  pub not_top : (i : ℕ) (group : Group) → At groups i group → group.path < top.path → At (take (length groups - 1) groups) i group
  not_top i group at before =
      let inside : i < length groups = slice_get_within groups i group at in
      at_take (length groups - 1) groups i group at (elim (cases_eq i (length groups - 1)) [
        | inl last ↦
            let P : ℕ → Type 0 = λ k. At groups k group in
            let here : At groups (length groups - 1) group = subst P last at in
            let same : top ≡ group = cc in
            let e : top.path ≡ group.path = ap (λ (g : Group). g.path) same in
            absurd (omega (arith, e, before))
        | inr other ↦ omega (arith, inside, other)
      ])

  pub is_group : (i : ℕ) (group : Group) → At (take (length groups - 1) groups) i group → At groups i group
  is_group i group at = (at_taken (length groups - 1) groups i group at).0

  module _ (to : ℕ) (last : At pending (length pending - 1) to) (behind : top.pending < length pending) where
    abbrev fewer : List Group
    fewer = take (length groups - 1) groups

    -- an arrow leads to the end from the last group, and so does a way from each position
    pub reaches_end : (p v : ℕ) → At path p v → Reaches Is v to
    reaches_end p v at =
        let from = search.source (length pending - 1) to last in
        let within = from.4 (length groups - 1) top is_top in
        let begins : top.path ≤ from.0 = within.1 (omega (arith, behind)) in
        reaches_arrow Is v from.1 to (search.leads p from.0 v from.1 at from.2 (top_together p from.0 begins)) from.3

    module _ (q : ℕ) (on_path : At marks to (OnPath q)) (before : q < top.path) where
      leads_on : (p r v w : ℕ) → At path p v → At path r w → IsTogether fewer p r → Reaches Is v w
      leads_on p r v w at_p at_r together = elim (cases_lt r top.path) [
        | inr behind_top ↦ search.leads p r v w at_p at_r (top_together p r behind_top)
        | inl before_top ↦ elim (cases_lt p top.path) [
          | inl p_before ↦ search.leads p r v w at_p at_r (λ i group at le. together i group (not_top i group at (omega (arith, le, p_before))) le)
          | inr p_behind ↦ reaches_reaches Is v to w (reaches_end p v at_p)
              (search.leads q r to w (search.stands q to on_path) at_r
              (λ i group at le. together i group (not_top i group at (omega (arith, le, before))) (omega (arith, le, before, p_behind))))
        ]
      ]

      grouped_on : (p v : ℕ) → At path p v → (i : ℕ) × (group : Group) × At fewer i group × (group.path ≤ p)
      grouped_on p v at = elim (cases_lt p top.path) [
        | inl p_before ↦ let mine = search.grouped p v at in
            let le : mine.1.path ≤ p = mine.3 in
            (mine.0, mine.1, not_top mine.0 mine.1 mine.2 (omega (arith, le, p_before)), le)
        | inr p_behind ↦ let its = search.grouped q to (search.stands q to on_path) in
            let le : its.1.path ≤ q = its.3 in
            (its.0, its.1, not_top its.0 its.1 its.2 (omega (arith, le, before)), omega (arith, le, before, p_behind))
      ]

      heeded_on : (p e : ℕ) → IsHeeded marks groups pending p e → IsHeeded marks fewer pending p e
      heeded_on p e heeded = elim heeded [
        | later j at beside ↦ later j at (λ i group at_g. beside i group (is_group i group at_g))
        | complete n at ↦ complete n at
        | onward r at together ↦ onward r at (λ i group at_g. together i group (is_group i group at_g))
      ]

      pub joins : IsSearch Is marks path fewer pending number
      joins = record {
        marked = search.marked;
        stands = search.stands;
        lower = search.lower;
        joined = search.joined;
        numbered = search.numbered;
        ordered = λ i j one other at_i at_j. search.ordered i j one other (is_group i one at_i) (is_group j other at_j);
        within = λ i group at. search.within i group (is_group i group at);
        grouped = grouped_on;
        leads = leads_on;
        source = λ j e at. let from = search.source j e at in (from.0, from.1, from.2, from.3, λ i group at_g. from.4 i group (is_group i group at_g));
        heeded = λ p v e at is. heeded_on p e (search.heeded p v e at is);
      }

    abbrev rest : List ℕ
    rest = take (length pending - 1) pending

    -- the end is complete, or stands in the last group
    abbrev pub IsDone : Type 0
    IsDone = ((n : ℕ) × At marks to (Closed n)) ⊎ ((r : ℕ) × At marks to (OnPath r) × (top.path ≤ r))

    heeded_past : IsDone → (p e : ℕ) → IsHeeded marks groups pending p e → IsHeeded marks groups rest p e
    heeded_past done p e heeded = elim heeded [
      | later j at beside ↦
          let inside : j < length pending = slice_get_within pending j e at in
          elim (cases_eq j (length pending - 1)) [
            | inl here ↦
                let P : ℕ → Type 0 = λ k. At pending k e in
                let at_last : At pending (length pending - 1) e = subst P here at in
                let same : to ≡ e = cc in
                let Q : ℕ → Type 0 = λ x. IsHeeded marks groups rest p x in
                subst Q same (elim done [
                  | inl closed ↦ complete closed.0 closed.1
                  | inr on ↦ onward on.0 on.1 (top_together p on.0 on.2)
                ])
            | inr other ↦ later j (at_take (length pending - 1) pending j e at (omega (arith, inside, other))) beside
          ]
      | complete n at ↦ complete n at
      | onward r at together ↦ onward r at together
    ]

    pub passes : IsDone → IsSearch Is marks path groups rest number
    passes done = record {
      marked = search.marked;
      stands = search.stands;
      ordered = search.ordered;
      grouped = search.grouped;
      leads = search.leads;
      lower = search.lower;
      joined = search.joined;
      numbered = search.numbered;
      within = λ i group at.
          let bounds = search.within i group at in
          let most : group.pending ≤ top.pending = (up_to_top i group at).1 in
          let few : length rest ≡ min (length pending - 1) (length pending) = length-take (length pending - 1) pending in
          (bounds.0, omega (arith, most, behind, few));
      source = λ j e at. search.source j e (at_taken (length pending - 1) pending j e at).0;
      heeded = λ p v e at is. heeded_past done p e (search.heeded p v e at is);
    }
