-- A search puts a new place on its path, as a group of its own, and the ends of its arrows to those that are pending.
use Rattle.std.proofs.Common.{◌≡◌, ◌≢◌, inl, inr, ℕ, ◌+◌, ◌<◌, ◌≤◌, List, [], ◌∷◌, ◌++◌, length, set, Contains, sym, ap, subst, subst₂, ◌∙◌, arith}
use Rattle.std.proofs.lemmas.List.{length-append}
use Rattle.std.proofs.lemmas.Option.{slice_get_within}
use Rattle.emc_base.specs.Lists.{At}
use Rattle.emc_base.proofs.Members.{at_push_cases, at_push_last}
use Rattle.emc_base.proofs.Joined.{at_left}
use Rattle.graphs.proofs.base_chains.orders.Orders.{place_of_member}
use Rattle.graphs.specs.arrow_cycles.Numbers.{Reaches}
use Rattle.graphs.specs.arrow_cycles.Searches.{IsBeside, IsHeeded, IsSearch, IsTogether, complete, later, onward}
use Rattle.graphs.specs.declared.arrow_cycles.search.Group.{Group}
use Rattle.graphs.specs.declared.arrow_cycles.search.Mark.{Mark}
use Rattle.graphs.specs.declared.arrow_cycles.search.Mark.TheVariants.{New, OnPath, Closed}
use Rattle.graphs.proofs.arrow_cycles.Places.{at_append, at_right, at_set, at_set_cases, at_set_kept}

module _ (Is : ℕ → ℕ → Type 0) (marks : List Mark) (path : List ℕ) (groups : List Group) (pending : List ℕ) (number : ℕ)
    (search : IsSearch Is marks path groups pending number) (place : ℕ) (listed : List ℕ) (unseen : At marks place New) where
  abbrev begun : Group
  begun = record { path = length path; pending = length pending }

  abbrev after : List Mark
  after = set marks place (OnPath (length path))

  placed : At after place (OnPath (length path))
  placed = at_set marks place (OnPath (length path)) (slice_get_within marks place New unseen)

  kept : (v : ℕ) (mark : Mark) → At marks v mark → mark ≢ New → At after v mark
  kept v mark at differs = at_set_kept marks place v (OnPath (length path)) mark New unseen at differs

  path_kept : (v p : ℕ) → At marks v (OnPath p) → At after v (OnPath p)
  path_kept v p at = kept v (OnPath p) at (λ same. cc)

  closed_kept : (v n : ℕ) → At marks v (Closed n) → At after v (Closed n)
  closed_kept v n at = kept v (Closed n) at (λ same. cc)

  closed_before : (v n : ℕ) → At after v (Closed n) → At marks v (Closed n)
  closed_before v n at = elim (at_set_cases marks place v (OnPath (length path)) (Closed n) at) [
    | inl old ↦ old
    | inr here ↦ let same : Closed n ≡ OnPath (length path) = here.1 in absurd cc
  ]

  -- no place becomes new
  pub opened_fresh : (v : ℕ) → At after v New → At marks v New
  opened_fresh v at = elim (at_set_cases marks place v (OnPath (length path)) New at) [
    | inl old ↦ old
    | inr here ↦ let same : New ≡ OnPath (length path) = here.1 in absurd cc
  ]

  -- where an old position belongs
  beside_old : (p v j : ℕ) → At path p v → j < length pending → IsBeside groups p j → IsBeside (groups ++ begun ∷ []) p j
  beside_old p v j at_p below beside i group at = elim (at_push_cases groups begun i group at) [
    | inl old ↦ beside i group old
    | inr here ↦
        let in_path : p < length path = slice_get_within path p v at_p in
        let e : group.path ≡ length path = ap (λ (g : Group). g.path) here.1 in
        let f : group.pending ≡ length pending = ap (λ (g : Group). g.pending) here.1 in
        (λ le. absurd (omega (arith, le, in_path, e)), λ le. absurd (omega (arith, le, below, f)))
  ]

  together_old : (p v q : ℕ) → At path p v → IsTogether groups p q → IsTogether (groups ++ begun ∷ []) p q
  together_old p v q at_p together i group at le = elim (at_push_cases groups begun i group at) [
    | inl old ↦ together i group old le
    | inr here ↦
        let in_path : p < length path = slice_get_within path p v at_p in
        let e : group.path ≡ length path = ap (λ (g : Group). g.path) here.1 in
        absurd (omega (arith, le, in_path, e))
  ]

  -- and the new one
  beside_new : (j : ℕ) → length pending ≤ j → IsBeside (groups ++ begun ∷ []) (length path) j
  beside_new j behind i group at = elim (at_push_cases groups begun i group at) [
    | inl old ↦
        let bounds = search.within i group old in
        let a : group.path ≤ length path = bounds.0 in
        let b : group.pending ≤ length pending = bounds.1 in
        (λ le. omega (arith, behind, b), λ le. omega (arith, a))
    | inr here ↦
        let e : group.path ≡ length path = ap (λ (g : Group). g.path) here.1 in
        let f : group.pending ≡ length pending = ap (λ (g : Group). g.pending) here.1 in
        (λ le. omega (arith, behind, f), λ le. omega (arith, e))
  ]

  heeded_old : (p v to : ℕ) → At path p v → IsHeeded marks groups pending p to → IsHeeded after (groups ++ begun ∷ []) (pending ++ listed) p to
  heeded_old p v to at_p heeded = elim heeded [
    | later j at beside ↦ later j (at_left pending listed j to at) (beside_old p v j at_p (slice_get_within pending j to at) beside)
    | complete n at ↦ complete n (closed_kept to n at)
    | onward q at together ↦ onward q (path_kept to q at) (together_old p v q at_p together)
  ]

  heeded_new : (to : ℕ) → Contains listed to → IsHeeded after (groups ++ begun ∷ []) (pending ++ listed) (length path) to
  heeded_new to has = later (length pending + has.0) (at_right pending listed has.0 to (place_of_member listed to has)) (beside_new (length pending + has.0) (omega arith))

  module _ (reached : (p v : ℕ) → At path p v → Reaches Is v place) (each : (to : ℕ) → Is place to → Contains listed to) (only : (to : ℕ) → Contains listed to → Is place to) where
    leads_more : (p q v w : ℕ) → At (path ++ place ∷ []) p v → At (path ++ place ∷ []) q w → IsTogether (groups ++ begun ∷ []) p q → Reaches Is v w
    leads_more p q v w at_p at_q together = elim (at_push_cases path place p v at_p) [
      | inl old_p ↦ elim (at_push_cases path place q w at_q) [
        | inl old_q ↦ search.leads p q v w old_p old_q (λ i group at le. together i group (at_left groups (begun ∷ []) i group at) le)
        | inr new_q ↦ let P : ℕ → Type 0 = λ x. Reaches Is v x in subst P (sym new_q.1) (reached p v old_p)
      ]
      | inr new_p ↦ elim (at_push_cases path place q w at_q) [
        | inl old_q ↦
            let in_path : q < length path = slice_get_within path q w old_q in
            let is : p ≡ length path = new_p.0 in
            let le : length path ≤ q = together (length groups) begun (at_push_last groups begun) (omega (arith, is)) in
            absurd (omega (arith, in_path, le))
        | inr new_q ↦ inl (new_p.1 ∙ sym new_q.1)
      ]
    ]

    ordered_more : (i j : ℕ) (one other : Group) → At (groups ++ begun ∷ []) i one → At (groups ++ begun ∷ []) j other → i ≤ j → (one.path ≤ other.path) × (one.pending ≤ other.pending)
    ordered_more i j one other at_i at_j le = elim (at_push_cases groups begun i one at_i) [
      | inl old_i ↦ elim (at_push_cases groups begun j other at_j) [
        | inl old_j ↦ search.ordered i j one other old_i old_j le
        | inr new_j ↦
            let bounds = search.within i one old_i in
            let a : one.path ≤ length path = bounds.0 in
            let b : one.pending ≤ length pending = bounds.1 in
            let e : other.path ≡ length path = ap (λ (g : Group). g.path) new_j.1 in
            let f : other.pending ≡ length pending = ap (λ (g : Group). g.pending) new_j.1 in
            (omega (arith, a, e), omega (arith, b, f))
      ]
      | inr new_i ↦ elim (at_push_cases groups begun j other at_j) [
        | inl old_j ↦
            let inside : j < length groups = slice_get_within groups j other old_j in
            let is : i ≡ length groups = new_i.0 in
            absurd (omega (arith, inside, is, le))
        | inr new_j ↦
            let e : one.path ≡ other.path = ap (λ (g : Group). g.path) (new_i.1 ∙ sym new_j.1) in
            let f : one.pending ≡ other.pending = ap (λ (g : Group). g.pending) (new_i.1 ∙ sym new_j.1) in
            (omega (arith, e), omega (arith, f))
      ]
    ]

    within_more : (i : ℕ) (group : Group) → At (groups ++ begun ∷ []) i group → (group.path ≤ length (path ++ place ∷ [])) × (group.pending ≤ length (pending ++ listed))
    within_more i group at =
        let one : length (path ++ place ∷ []) ≡ length path + 1 = length-append path (place ∷ []) in
        let more : length (pending ++ listed) ≡ length pending + length listed = length-append pending listed in
        elim (at_push_cases groups begun i group at) [
          | inl old ↦
              let bounds = search.within i group old in
              let a : group.path ≤ length path = bounds.0 in
              let b : group.pending ≤ length pending = bounds.1 in
              (omega (arith, a, one), omega (arith, b, more))
          | inr here ↦
              let e : group.path ≡ length path = ap (λ (g : Group). g.path) here.1 in
              let f : group.pending ≡ length pending = ap (λ (g : Group). g.pending) here.1 in
              (omega (arith, e, one), omega (arith, f, more))
        ]

    pub opened : IsSearch Is after (path ++ place ∷ []) (groups ++ begun ∷ []) (pending ++ listed) number
    opened = record {
      marked = λ p v at. elim (at_push_cases path place p v at) [
        | inl old ↦ path_kept v p (search.marked p v old)
        | inr here ↦ let P : ℕ → ℕ → Type 0 = λ q x. At after x (OnPath q) in subst₂ P (sym here.0) (sym here.1) placed
      ];
      stands = λ p v at. elim (at_set_cases marks place v (OnPath (length path)) (OnPath p) at) [
        | inl old ↦ at_left path (place ∷ []) p v (search.stands p v old)
        | inr here ↦
            let is : OnPath p ≡ OnPath (length path) = here.1 in
            let same : length path ≡ p = cc in
            let P : ℕ → ℕ → Type 0 = λ q x. At (path ++ place ∷ []) q x in subst₂ P same here.0 (at_push_last path place)
      ];
      ordered = ordered_more;
      within = within_more;
      grouped = λ p v at. elim (at_push_cases path place p v at) [
        | inl old ↦ let mine = search.grouped p v old in (mine.0, mine.1, at_left groups (begun ∷ []) mine.0 mine.1 mine.2, mine.3)
        | inr here ↦ let is : p ≡ length path = here.0 in (length groups, begun, at_push_last groups begun, omega (arith, is))
      ];
      leads = leads_more;
      source = λ j to at. elim (at_append pending listed j to at) [
        | inl old ↦ let from = search.source j to old in
            (from.0, from.1, at_left path (place ∷ []) from.0 from.1 from.2, from.3, beside_old from.0 from.1 j from.2 (slice_get_within pending j to old) from.4)
        | inr here ↦ (length path, place, at_push_last path place, only to here.1, beside_new j here.0)
      ];
      heeded = λ p v to at is. elim (at_push_cases path place p v at) [
        | inl old ↦ heeded_old p v to old (search.heeded p v to old is)
        | inr here ↦
            let P : ℕ → Type 0 = λ q. IsHeeded after (groups ++ begun ∷ []) (pending ++ listed) q to in
            let Q : ℕ → Type 0 = λ x. Is x to in
            subst P (sym here.0) (heeded_new to (each to (subst Q here.1 is)))
      ];
      lower = λ v n to at is. let next = search.lower v n to (closed_before v n at) is in (next.0, closed_kept to next.0 next.1, next.2);
      joined = λ v w n at_v at_w. search.joined v w n (closed_before v n at_v) (closed_before w n at_w);
      numbered = λ v n at. search.numbered v n (closed_before v n at);
    }
