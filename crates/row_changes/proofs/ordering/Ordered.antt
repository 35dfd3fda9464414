-- A list of the changes keeps all keys after each of them exactly where it respects what has to come before what; so a ring has no order.
use Rattle.std.proofs.Common.{◌≡◌, ◌≢◌, ◌↔◌, ⊎_elim, ℕ, zero, suc, ◌+◌, ◌<◌, ◌≤◌, List, [], ◌∷◌, ◌++◌, get_or, length, All, AllPairs, Contains, Some, refl, sym, ap, subst, ◌∙◌, arith}
use Rattle.std.proofs.lemmas.Bool.{cases_eq, cases_lt}
use Rattle.std.proofs.lemmas.List.Elements.{All-contains, Contains-append_cases, Contains-append_left, Contains-append_right}
use Rattle.std.proofs.lemmas.Option.{get_or_from_slice_get, slice_get_within}
use Rattle.emc_base.specs.Lists.{At}
use Rattle.emc_base.proofs.Joined.{pairs_head, pairs_tail}
use Rattle.emc_base.proofs.Lists.{all_from_members, at_once, item_at}
use Rattle.emc_base.proofs.Mapped.{contains_at}
use Rattle.emc_base.proofs.Members.{contains_cons_cases, contains_nil, contains_tail}
use Rattle.emc_base.proofs.facts.Pairs.{pairs_append}
use Rattle.round_trip.proofs.Lookups.{key_columns_at}
use Rattle.round_trip.specs.Words.{AreLegalTables, ColId, HasAllowedNullCells, HasCellsInDomain, KeepsForeignKey, Row, StoreModel, TableId, Tables, cells_of, rows_in}
use Rattle.row_changes.specs.declared.change.RowChange.{RowChange}
use Rattle.row_changes.specs.Changes.{after, key_in}
use Rattle.row_changes.specs.Differences.{AreBothLegal, AreDifference, IsChange}
use Rattle.row_changes.specs.Orders.{IsCycle, MustPrecede, Respects, StepLegal}
use Rattle.row_changes.proofs.leading.Leads.{are_changes, prefix_between}
use Rattle.row_changes.proofs.leading.Stepping.{AreBetween, IsChanged}
use Rattle.row_changes.proofs.ordering.Breaking.{breaks}
use Rattle.row_changes.proofs.ordering.Keeping.{kept}

-- what is so by pairs is so of an item before a cut and one behind it
across : {X : Type 0} (R : X → X → Type 0) (xs ys : List X) → AllPairs R (xs ++ ys) → (x y : X) → Contains xs x → Contains ys y → R x y
across R [] ys pairs x y has also = absurd (contains_nil x has)
across R (z ∷ xs) ys pairs x y has also = ⊎_elim
    (λ (is : x ≡ z). subst (λ one. R one y) (sym is) (All-contains (R z) (xs ++ ys) y (pairs_head R z (xs ++ ys) pairs) (Contains-append_right xs ys y also)))
    (λ (among : Contains xs x). across R xs ys (pairs_tail R z (xs ++ ys) pairs) x y among also)
    (contains_cons_cases z xs x has)

-- and what is so across each cut is so by pairs
by_cuts : {X : Type 0} (R : X → X → Type 0) (xs : List X) → ((before later : List X) → xs ≡ before ++ later → (x y : X) → Contains before x → Contains later y → R x y) → AllPairs R xs
by_cuts R [] cuts = λ i j d below within. absurd (omega (arith, below, within))
by_cuts R (x ∷ xs) cuts =
    pairs_append R (x ∷ []) xs (λ i j d below within. absurd (omega (arith, below, within)))
    (by_cuts R xs (λ before later is one other has also. cuts (x ∷ before) later (ap (λ rest. x ∷ rest) is) one other (contains_tail x before one has) also))
    (λ one other has also. cuts (x ∷ []) xs refl one other has also)

-- at places
at_pair : {X : Type 0} (R : X → X → Type 0) (xs : List X) → AllPairs R xs → (i j : ℕ) (x y : X) → At xs i x → At xs j y → i < j → R x y
at_pair R xs pairs i j x y at_i at_j below =
    let first : get_or xs i x ≡ x = get_or_from_slice_get xs i x x at_i in
    let second : get_or xs j x ≡ y = get_or_from_slice_get xs j y x at_j in
    let P : _ → Type 0 = λ one. R one y in
    subst P first (subst (R (get_or xs i x)) second (pairs i j x below (slice_get_within xs j y at_j)))

-- a member stands at a place, and at one alone where no two are the same
placed : {X : Type 0} (xs : List X) (x : X) → Contains xs x → (n : ℕ) × At xs n x
placed [] x has = absurd (contains_nil x has)
placed (y ∷ xs) x has = ⊎_elim
    (λ (is : x ≡ y). (zero, ap Some (sym is)))
    (λ (later : Contains xs x). let found = placed xs x later in (suc found.0, found.1))
    (contains_cons_cases y xs x has)

one_place : {X : Type 0} (xs : List X) → AllPairs (λ a b. a ≢ b) xs → (i j : ℕ) (x : X) → At xs i x → At xs j x → i ≡ j
one_place xs apart i j x at_i at_j = ⊎_elim
    (λ (below : i < j). absurd (at_pair (λ a b. a ≢ b) xs apart i j x x at_i at_j below refl))
    (λ (not_below : j ≤ i). ⊎_elim
    (λ (above : j < i). absurd (at_pair (λ a b. a ≢ b) xs apart j i x x at_j at_i above refl))
    (λ (not_above : i ≤ j). omega (arith, not_below, not_above))
    (cases_lt j i))
    (cases_lt i j)

module _ (store : StoreModel) (old new : Tables) (both : AreBothLegal store old new) (changes : List RowChange) (difference : AreDifference store old new changes) where
  between : (before later : List RowChange) → changes ≡ before ++ later → AreBetween store old new both before (after store old before)
  between = prefix_between store old new both changes difference

  are : (change : RowChange) → Contains changes change → IsChange store old new change
  are = are_changes store old new both changes difference

  in_changes : (before later : List RowChange) → changes ≡ before ++ later → (change : RowChange) → Contains before change → Contains changes change
  in_changes before later is change has = subst (λ (list : List RowChange). Contains list change) (sym is) (Contains-append_left before later change has)

  in_later : (before later : List RowChange) → changes ≡ before ++ later → (change : RowChange) → Contains later change → Contains changes change
  in_later before later is change has = subst (λ (list : List RowChange). Contains list change) (sym is) (Contains-append_right before later change has)

  respected : StepLegal store changes old → Respects store old new changes
  respected legal = by_cuts (λ one later. ¬ MustPrecede store old new later one) changes (λ before later is other one has also must.
      breaks store old new both before (after store old before) (between before later is) (λ change among. are change (in_changes before later is change among)) one other
      (are one (in_later before later is one also)) (are other (in_changes before later is other has))
      (λ made. across (λ (a b : RowChange). a ≢ b) before later (subst (AllPairs (λ (a b : RowChange). a ≢ b)) is difference.once) one one made also refl) has must (legal before later is).foreign)

  foreign : Respects store old new changes → (before later : List RowChange) → changes ≡ before ++ later → All (KeepsForeignKey (after store old before)) store.keys
  foreign respects before later is = all_from_members (KeepsForeignKey (after store old before)) store.keys (λ key is_key.
      kept store old new both changes difference are before (after store old before) (between before later is) (in_changes before later is)
      (λ one other has not_made made. ⊎_elim
      (λ (earlier : Contains before one). absurd (not_made earlier))
      (λ (behind : Contains later one).
      across (λ one later. ¬ MustPrecede store old new later one) before later (subst (AllPairs (λ one later. ¬ MustPrecede store old new later one)) is respects) other one made behind)
      (Contains-append_cases before later one (subst (λ (list : List RowChange). Contains list one) is has))) key is_key)

  pub exactly : StepLegal store changes old ↔ Respects store old new changes
  exactly = (
    respected,
    λ respects before later is. record { primary = (between before later is).apart; foreign = foreign respects before later is },
  )

  -- each row of the tables between is an old one or a new one
  module _ (before later : List RowChange) (is : changes ≡ before ++ later) where
    abbrev tables : Tables
    tables = after store old before

    each_row : (t : TableId) (P : Row → Type 0) → All P (rows_in old t) → All P (rows_in new t) → All P (rows_in tables t)
    each_row t P of_old of_new = all_from_members P (rows_in tables t) (λ row has. ⊎_elim
        (λ (is_old : Contains (rows_in old t) row × (¬ IsChanged store before t (key_in store t row))). All-contains P (rows_in old t) row of_old is_old.0)
        (λ (is_new : Contains (rows_in new t) row × IsChanged store before t (key_in store t row)). All-contains P (rows_in new t) row of_new is_new.0)
        ((between before later is).stands t row has))

    pub between_legal : StepLegal store changes old → AreLegalTables store tables
    between_legal legal = record {
      shape = record {
        each = (between before later is).size ∙ both.old_legal.shape.each;
        rows = λ t table here. each_row t (λ row. length row.cells ≡ length table.cols) (both.old_legal.shape.rows t table here) (both.new_legal.shape.rows t table here);
      };
      rows = λ t table here.
          (let Apart : List ColId → Type 0 = λ cols. AllPairs (λ row other. cells_of row cols ≢ cells_of other cols) (rows_in tables t) in
          record {
            nulls = each_row t (HasAllowedNullCells table) (both.old_legal.rows t table here).nulls (both.new_legal.rows t table here).nulls;
            domains = each_row t (HasCellsInDomain table) (both.old_legal.rows t table here).domains (both.new_legal.rows t table here).domains;
            keys = subst Apart (key_columns_at store t table here) ((between before later is).apart t);
          });
      keys = (legal before later is).foreign;
    }

  -- of two changes that stand in the list the one that has to come first stands first
  comes_first : Respects store old new changes → (one other : RowChange) → MustPrecede store old new one other → (i j : ℕ) → At changes i one → At changes j other → i < j
  comes_first respects one other must i j at_i at_j = ⊎_elim
      (λ (below : i < j). below)
      (λ (not_below : j ≤ i). ⊎_elim
      (λ (same : i ≡ j). absurd (must.apart (at_once changes j one other (subst (λ (n : ℕ). At changes n one) same at_i) at_j)))
      (λ (differ : i ≢ j). absurd (at_pair (λ first later. ¬ MustPrecede store old new later first) changes respects j i other one at_j at_i (lower i j not_below differ) must))
      (cases_eq i j))
      (cases_lt i j)
    where
      lower : (i j : ℕ) → j ≤ i → i ≢ j → j < i
      lower i j below differ = ⊎_elim (λ (less : j < i). less) (λ (more : i ≤ j). absurd (differ (omega (arith, below, more)))) (cases_lt j i)

  module _ (respects : Respects store old new changes) (ring : List RowChange) (cycle : IsCycle store old new ring) (ring_are : All (IsChange store old new) ring) where
    place : (change : RowChange) (i : ℕ) → At ring i change → (n : ℕ) × At changes n change
    place change i at = placed changes change (difference.all change (All-contains (IsChange store old new) ring change ring_are (contains_at ring i change at)))

    -- so along the ring the places rise
    rises : (first : RowChange) (p : ℕ) → At ring zero first → At changes p first → (n : ℕ) (change : RowChange) (q : ℕ) → At ring n change → At changes q change → p + n ≤ q
    rises first p at_first here zero change q at_n there =
        let same : first ≡ change = at_once ring zero first change at_first at_n in
        let position : p ≡ q = one_place changes difference.once p q first here (subst (λ (c : RowChange). At changes q c) (sym same) there) in
        omega (arith, position)
    rises first p at_first here (suc n) change q at_n there =
        let within = slice_get_within ring (suc n) change at_n in
        let before = item_at ring n (omega (arith, within)) in
        let found = place before.0 n before.1 in
        let so_far = rises first p at_first here n before.0 found.0 before.1 found.1 in
        let next = comes_first respects before.0 change (cycle.next n before.0 change before.1 at_n) found.0 q found.1 there in
        omega (arith, so_far, next)

    pub no_ring : ⊥
    no_ring = by (length ring) refl
      where
        by : (n : ℕ) → length ring ≡ n → ⊥
        by zero size = let two = cycle.two in absurd (omega (arith, size, two))
        by (suc n) size =
            let first = item_at ring zero (omega (arith, size)) in
            let last = item_at ring n (omega (arith, size)) in
            let p = place first.0 zero first.1 in
            let q = place last.0 n last.1 in
            let rose = rises first.0 p.0 first.1 p.1 n last.0 q.0 last.1 q.1 in
            let back = comes_first respects last.0 first.0 (cycle.closes first.0 last.0 n first.1 last.1 size) q.0 p.0 q.1 p.1 in
            absurd (omega (arith, rose, back))
