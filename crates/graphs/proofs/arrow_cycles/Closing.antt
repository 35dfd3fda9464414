-- A search whose last group has no arrow left to follow: its places are a complete component, and leave the path.
use Rattle.std.proofs.Common.{◌≡◌, ◌⊎◌, inl, inr, ℕ, ◌+◌, ◌-◌, ◌<◌, ◌≤◌, List, length, take, drop, min, Contains, arith}
use Rattle.std.proofs.lemmas.Bool.{cases_lt}
use Rattle.std.proofs.lemmas.List.{length-take}
use Rattle.std.proofs.lemmas.Option.{slice_get_within}
use Rattle.emc_base.specs.Lists.{At}
use Rattle.graphs.proofs.base_chains.orders.Orders.{place_of_member}
use Rattle.graphs.specs.arrow_cycles.Numbers.{Reaches}
use Rattle.graphs.specs.arrow_cycles.Searches.{AreClosed, IsBeside, IsHeeded, IsSearch, IsTogether, IsTop, complete, later, onward}
use Rattle.graphs.specs.declared.arrow_cycles.search.Group.{Group}
use Rattle.graphs.specs.declared.arrow_cycles.search.Mark.{Mark}
use Rattle.graphs.specs.declared.arrow_cycles.search.Mark.TheVariants.{New, OnPath, Closed}
use Rattle.graphs.proofs.arrow_cycles.Joining.{is_group, not_top, top_together, up_to_top}
use Rattle.graphs.proofs.arrow_cycles.Places.{at_drop, at_dropped, at_take, at_taken}

module _ (Is : ℕ → ℕ → Type 0) (marks : List Mark) (path : List ℕ) (groups : List Group) (pending : List ℕ) (number : ℕ)
    (search : IsSearch Is marks path groups pending number) (top : Group) (is_top : IsTop groups top)
    (none : length pending ≤ top.pending) (after : List Mark) (closed : AreClosed number (drop top.path path) marks after) where
  abbrev fewer : List Group
  fewer = take (length groups - 1) groups

  abbrev rest : List ℕ
  rest = take top.path path

  group_before : (i : ℕ) (group : Group) → At fewer i group → At groups i group
  group_before i group at = is_group Is marks path groups pending number search top is_top i group at

  still_group : (i : ℕ) (group : Group) → At groups i group → group.path < top.path → At fewer i group
  still_group i group at before = not_top Is marks path groups pending number search top is_top i group at before

  together : (p q : ℕ) → top.path ≤ q → IsTogether groups p q
  together p q le = top_together Is marks path groups pending number search top is_top p q le

  -- a place that was closed now stood in the last group
  stood : (v : ℕ) → Contains (drop top.path path) v → (k : ℕ) × At path (top.path + k) v
  stood v has = (has.0, at_dropped top.path path has.0 v (place_of_member (drop top.path path) v has))

  is_closed : (p v : ℕ) → At path p v → top.path ≤ p → At after v (Closed number)
  is_closed p v at le =
      let has = at_drop top.path path p v at le in
      closed.closed has.0 v (place_of_member (drop top.path path) v has)

  closed_stays : (v n : ℕ) → At marks v (Closed n) → At after v (Closed n)
  closed_stays v n at = closed.kept v (Closed n) at (λ has. let here = stood v has in let on = search.marked (top.path + here.0) v here.1 in cc)

  path_stays : (p v : ℕ) → At path p v → p < top.path → At after v (OnPath p)
  path_stays p v at before = closed.kept v (OnPath p) (search.marked p v at) (λ has.
      let here = stood v has in
      let one = search.marked (top.path + here.0) v here.1 in
      let other = search.marked p v at in
      let same : top.path + here.0 ≡ p = cc in
      omega (arith, same, before))

  on_path_before : (v p : ℕ) → At after v (OnPath p) → At marks v (OnPath p)
  on_path_before v p at = elim (closed.only v (OnPath p) at) [
    | inl old ↦ old
    | inr here ↦ let is : OnPath p ≡ Closed number = here.0 in absurd cc
  ]

  -- a place of a complete component was one before, or stood in the last group
  closed_cases : (v n : ℕ) → At after v (Closed n) → At marks v (Closed n) ⊎ ((n ≡ number) × ((p : ℕ) × At path p v × (top.path ≤ p)))
  closed_cases v n at = elim (closed.only v (Closed n) at) [
    | inl old ↦ inl old
    | inr here ↦
        let is : Closed n ≡ Closed number = here.0 in
        let place = stood v here.1 in
        inr (cc, (top.path + place.0, place.1, omega arith))
  ]

  pub closed_fresh : (v : ℕ) → At after v New → At marks v New
  closed_fresh v at = elim (closed.only v New at) [
    | inl old ↦ old
    | inr here ↦ let is : New ≡ Closed number = here.0 in absurd cc
  ]

  -- an arrow from the last group leads to a place of a complete component
  lower_now : (p v n to : ℕ) → At path p v → top.path ≤ p → n ≡ number → Is v to → (m : ℕ) × At after to (Closed m) × (m ≤ n)
  lower_now p v n to at le same is = elim (search.heeded p v to at is) [
    | later j at_j beside ↦
        let behind : top.pending ≤ j = (beside (length groups - 1) top is_top).0 le in
        let inside : j < length pending = slice_get_within pending j to at_j in
        absurd (omega (arith, behind, inside, none))
    | complete m at_to ↦ let below : m < number = search.numbered to m at_to in (m, closed_stays to m at_to, omega (arith, below, same))
    | onward q at_to with_q ↦ (number, is_closed q to (search.stands q to at_to) (with_q (length groups - 1) top is_top le), omega (arith, same))
  ]

  lower_all : (v n to : ℕ) → At after v (Closed n) → Is v to → (m : ℕ) × At after to (Closed m) × (m ≤ n)
  lower_all v n to at is = elim (closed_cases v n at) [
    | inl old ↦ let next = search.lower v n to old is in (next.0, closed_stays to next.0 next.1, next.2)
    | inr here ↦ lower_now here.1.0 v n to here.1.1 here.1.2 here.0 is
  ]

  joined_all : (v w n : ℕ) → At after v (Closed n) → At after w (Closed n) → Reaches Is v w
  joined_all v w n at_v at_w = elim (closed_cases v n at_v) [
    | inl old_v ↦ elim (closed_cases w n at_w) [
      | inl old_w ↦ search.joined v w n old_v old_w
      | inr here_w ↦ let below : n < number = search.numbered v n old_v in let same : n ≡ number = here_w.0 in absurd (omega (arith, below, same))
    ]
    | inr here_v ↦ elim (closed_cases w n at_w) [
      | inl old_w ↦ let below : n < number = search.numbered w n old_w in let same : n ≡ number = here_v.0 in absurd (omega (arith, below, same))
      | inr here_w ↦ search.leads here_v.1.0 here_w.1.0 v w here_v.1.1 here_w.1.1 (together here_v.1.0 here_w.1.0 here_w.1.2)
    ]
  ]

  heeded_still : (p to : ℕ) → IsHeeded marks groups pending p to → IsHeeded after fewer pending p to
  heeded_still p to heeded = elim heeded [
    | later j at beside ↦ later j at (λ i group at_g. beside i group (group_before i group at_g))
    | complete n at ↦ complete n (closed_stays to n at)
    | onward q at with_q ↦ elim (cases_lt q top.path) [
      | inl before ↦ onward q (path_stays q to (search.stands q to at) before) (λ i group at_g. with_q i group (group_before i group at_g))
      | inr behind ↦ complete number (is_closed q to (search.stands q to at) behind)
    ]
  ]

  source_still : (j to : ℕ) → At pending j to → (p : ℕ) × (v : ℕ) × At rest p v × Is v to × IsBeside fewer p j
  source_still j to at =
      let from = search.source j to at in
      let inside : j < length pending = slice_get_within pending j to at in
      let before : from.0 < top.path = elim (cases_lt from.0 top.path) [
        | inl lt ↦ lt
        | inr le ↦ let behind : top.pending ≤ j = (from.4 (length groups - 1) top is_top).0 le in absurd (omega (arith, behind, inside, none))
      ] in
      (from.0, from.1, at_take top.path path from.0 from.1 from.2 before, from.3, λ i group at_g. from.4 i group (group_before i group at_g))

  pub closes : IsSearch Is after rest fewer pending (number + 1)
  closes = record {
    marked = λ p v at. let old = at_taken top.path path p v at in path_stays p v old.0 old.1;
    stands = λ p v at.
        let old = search.stands p v (on_path_before v p at) in
        elim (cases_lt p top.path) [
          | inl before ↦ at_take top.path path p v old before
          | inr behind ↦ let is = is_closed p v old behind in absurd cc
        ];
    ordered = λ i j one other at_i at_j. search.ordered i j one other (group_before i one at_i) (group_before j other at_j);
    within = λ i group at.
        let old = group_before i group at in
        let bounds = search.within (length groups - 1) top is_top in
        let a : top.path ≤ length path = bounds.0 in
        let most : group.path ≤ top.path = (up_to_top Is marks path groups pending number search top is_top i group old).0 in
        let few : length rest ≡ min top.path (length path) = length-take top.path path in
        (omega (arith, a, most, few), (search.within i group old).1);
    grouped = λ p v at.
        let old = at_taken top.path path p v at in
        let mine = search.grouped p v old.0 in
        let le : mine.1.path ≤ p = mine.3 in
        let before : p < top.path = old.1 in
        (mine.0, mine.1, still_group mine.0 mine.1 mine.2 (omega (arith, le, before)), le);
    leads = λ p q v w at_p at_q with_q.
        let old = at_taken top.path path p v at_p in
        let before : p < top.path = old.1 in
        search.leads p q v w old.0 (at_taken top.path path q w at_q).0
        (λ i group at le. with_q i group (still_group i group at (omega (arith, le, before))) le);
    source = source_still;
    heeded = λ p v to at is. heeded_still p to (search.heeded p v to (at_taken top.path path p v at).0 is);
    lower = lower_all;
    joined = joined_all;
    numbered = λ v n at. elim (closed_cases v n at) [
      | inl old ↦ let below : n < number = search.numbered v n old in omega (arith, below)
      | inr here ↦ let same : n ≡ number = here.0 in omega (arith, same)
    ];
  }
