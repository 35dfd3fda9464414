-- The changes of a difference lead to the new tables, and each finds what it needs at its turn.
use Rattle.std.proofs.Common.{◌≡◌, ◌≢◌, ◌⊎◌, ⊎_elim, inl, inr, List, [], ◌∷◌, ◌++◌, append-nil, append_assoc, AllPairs, Contains, refl, sym, ap, subst, ◌∙◌}
use Rattle.std.proofs.lemmas.List.Elements.{All-contains, Contains-append_cases, Contains-append_left, Contains-append_right}
use Rattle.emc_base.specs.Lists.{AreApart}
use Rattle.emc_base.proofs.Joined.{apart-left, pairs_head, pairs_tail}
use Rattle.emc_base.proofs.Members.{contains_cons_cases, contains_head, contains_nil, contains_tail}
use Rattle.schema_laws.proofs.state_demand.lists.Permutations.{same_members_permute}
use Rattle.schema_laws.specs.state_demand.Selecting.{same_key}
use Rattle.schema_laws.proofs.state_demand.writings.Selecting.{Decides-key}
use Rattle.round_trip.specs.Words.{AreSameTables, Row, StoreModel, TableId, Tables, Value, rows_in}
use Rattle.row_changes.specs.declared.change.RowChange.{RowChange}
use Rattle.row_changes.specs.declared.change.RowChange.TheVariants.{Insert, Update, Delete}
use Rattle.row_changes.specs.Changes.{FindsItsRow, HasNoRow, HasRow, after, after_one, key_in, key_of_change, table_of}
use Rattle.row_changes.specs.Differences.{AreBothLegal, AreDifference, IsChange}
use Rattle.row_changes.proofs.leading.Primary.{either, one_row}
use Rattle.row_changes.proofs.leading.Stepping.{AreBetween, IsAt, IsChanged, finds_at, new_apart, none_made, old_apart, one_at, one_more_made, same_done}

-- of a list whose items are so by pairs, an item before another
pub before_so : {X : Type 0} (R : X → X → Type 0) (xs : List X) (y : X) (ys : List X) → AllPairs R (xs ++ y ∷ ys) → (x : X) → Contains xs x → R x y
before_so R [] y ys pairs x has = absurd (contains_nil x has)
before_so R (z ∷ xs) y ys pairs x has = ⊎_elim
    (λ (is : x ≡ z). subst (λ one. R one y) (sym is) (All-contains (R z) (xs ++ y ∷ ys) y (pairs_head R z (xs ++ y ∷ ys) pairs) (Contains-append_right xs (y ∷ ys) y (contains_head y ys))))
    (λ (among : Contains xs x). before_so R xs y ys (pairs_tail R z (xs ++ y ∷ ys) pairs) x among)
    (contains_cons_cases z xs x has)

-- rows are one or not, and one of a list has a key or none
pub same_or_not : (one other : Row) → (one ≡ other) ⊎ (one ≢ other)
same_or_not one other = ⊎_elim
    (λ (same : one.cells ≡ other.cells). inl (λ k. record { cells = same k }))
    (λ (differ : one.cells ≢ other.cells). inr (λ same. differ (ap (λ (row : Row). row.cells) same)))
    (either (same_key one.cells other.cells) (Decides-key one.cells other.cells))

pub row_or_none : (store : StoreModel) (t : TableId) (key : List Value) (rows : List Row) → ((row : Row) × (Contains rows row × (key_in store t row ≡ key))) ⊎ ((row : Row) → ¬ (Contains rows row × (key_in store t row ≡ key)))
row_or_none store t key [] = inr (λ row has. contains_nil row has.0)
row_or_none store t key (first ∷ rows) = ⊎_elim
    (λ (same : key_in store t first ≡ key). inl (first, (contains_head first rows, same)))
    (λ (other : key_in store t first ≢ key). ⊎_elim
    (λ (some : (row : Row) × (Contains rows row × (key_in store t row ≡ key))). inl (some.0, (contains_tail first rows some.0 some.1.0, some.1.1)))
    (λ (none : (row : Row) → ¬ (Contains rows row × (key_in store t row ≡ key))). inr (λ row has. ⊎_elim
    (λ (is : row ≡ first). other (ap (key_in store t) (sym is) ∙ has.1))
    (λ (later : Contains rows row). none row (later, has.1))
    (contains_cons_cases first rows row has.0)))
    (row_or_none store t key rows))
    (either (same_key (key_in store t first) key) (Decides-key (key_in store t first) key))

module _ (store : StoreModel) (old new : Tables) (both : AreBothLegal store old new) where
  abbrev pub AreChanges : List RowChange → Type 0
  AreChanges changes = (change : RowChange) → Contains changes change → IsChange store old new change

  -- a change is at a row that none before it changes
  pub not_changed : (done : List RowChange) (change : RowChange) (rest : List RowChange) → AreApart (done ++ change ∷ rest) → AreChanges (done ++ change ∷ rest)
      → ¬ IsChanged store done (table_of change) (key_of_change store change)
  not_changed done change rest apart are (one, has, at) =
      before_so (λ (a b : RowChange). a ≢ b) done change rest apart one has
      (one_at store old new both one change (are one (Contains-append_left done (change ∷ rest) one has)) (are change (Contains-append_right done (change ∷ rest) change (contains_head change rest))) at.0 at.1)

  -- so after some of them the tables are between
  pub between : (done rest : List RowChange) (tables : Tables) → AreApart (done ++ rest) → AreChanges (done ++ rest) → AreBetween store old new both done tables
      → AreBetween store old new both (done ++ rest) (after store tables rest)
  between done [] tables apart are so = subst (λ (list : List RowChange). AreBetween store old new both list tables) (sym (append-nil done)) so
  between done (change ∷ rest) tables apart are so =
      let is : IsChange store old new change = are change (Contains-append_right done (change ∷ rest) change (contains_head change rest)) in
      let step = one_more_made store old new both done tables so change is (not_changed done change rest apart are) in
      let longer : List RowChange = done ++ change ∷ [] in
      let assoc : longer ++ rest ≡ done ++ change ∷ rest = append_assoc done (change ∷ []) rest in
      let first : AreBetween store old new both longer (after_one store tables change) =
      same_done store old new both (change ∷ done) longer (after_one store tables change)
      (λ one has. ⊎_elim
      (λ (same : one ≡ change). Contains-append_right done (change ∷ []) one (subst (Contains (change ∷ [])) (sym same) (contains_head change [])))
      (λ (among : Contains done one). Contains-append_left done (change ∷ []) one among)
      (contains_cons_cases change done one has))
      (λ one has. ⊎_elim
      (λ (among : Contains done one). contains_tail change done one among)
      (λ (last : Contains (change ∷ []) one). ⊎_elim
      (λ (same : one ≡ change). subst (Contains (change ∷ done)) (sym same) (contains_head change done))
      (λ (never : Contains [] one). absurd (contains_nil one never))
      (contains_cons_cases change [] one last))
      (Contains-append_cases done (change ∷ []) one has))
      step in
      subst (λ (list : List RowChange). AreBetween store old new both list (after store (after_one store tables change) rest)) assoc
      (between longer rest (after_one store tables change) (subst AreApart (sym assoc) apart)
      (λ one has. are one (subst (λ (list : List RowChange). Contains list one) assoc has)) first)

  module _ (changes : List RowChange) (difference : AreDifference store old new changes) where
    pub are_changes : AreChanges changes
    are_changes change has = All-contains (IsChange store old new) changes change difference.only has

    -- after the first of them
    pub prefix_between : (before later : List RowChange) → changes ≡ before ++ later → AreBetween store old new both before (after store old before)
    prefix_between before later is =
        between [] before old (apart_left before later (subst AreApart is difference.once))
        (λ change has. are_changes change (subst (λ (list : List RowChange). Contains list change) (sym is) (Contains-append_left before later change has)))
        (none_made store old new both)
      where
        apart_left : (xs ys : List RowChange) → AreApart (xs ++ ys) → AreApart xs
        apart_left xs ys apart = apart-left (λ (a b : RowChange). a ≢ b) xs ys apart

    pub finds : (before later : List RowChange) (change : RowChange) → changes ≡ before ++ change ∷ later → FindsItsRow store (after store old before) change
    finds before later change is =
        let has : Contains changes change = subst (λ (list : List RowChange). Contains list change) (sym is) (Contains-append_right before (change ∷ later) change (contains_head change later)) in
        finds_at store old new both before (after store old before) (prefix_between before (change ∷ later) is) change (are_changes change has)
        (not_changed before change later (subst AreApart is difference.once) (λ one among. are_changes one (subst (λ (list : List RowChange). Contains list one) (sym is) among)))

    -- after all of them the rows are the new ones
    all_made : AreBetween store old new both changes (after store old changes)
    all_made = prefix_between changes [] (sym (append-nil changes))

    -- no change is at a row that is old and new
    at_its_own : (change : RowChange) → IsChange store old new change → (row : Row) → Contains (rows_in old (table_of change)) row → Contains (rows_in new (table_of change)) row
        → key_of_change store change ≡ key_in store (table_of change) row → ⊥
    at_its_own (Insert u one) is row is_old is_new same = is.1 row (is_old, sym same)
    at_its_own (Update u one) is row is_old is_new same =
        is.1.2 (one_row store old u (old_apart store old new both u) (key_in store u one) is.1.0 row is.1.1 (is_old, sym same)
        ∙ one_row store new u (new_apart store old new both u) (key_in store u one) row one (is_new, sym same) (is.0, refl))
    at_its_own (Delete u key) is row is_old is_new same = is.1 row (is_new, sym same)

    one_of : (change : RowChange) → IsChange store old new change → IsChanged store changes (table_of change) (key_of_change store change)
    one_of change is = (change, difference.all change is, (refl, refl))

    -- a row that no change changes is new
    stays_new : (t : TableId) (row : Row) → Contains (rows_in old t) row → ¬ IsChanged store changes t (key_in store t row) → Contains (rows_in new t) row
    stays_new t row has unchanged = ⊎_elim
        (λ (some : (one : Row) × HasRow store new t (key_in store t row) one). ⊎_elim
        (λ (same : some.0 ≡ row). subst (Contains (rows_in new t)) same some.1.0)
        (λ (other : some.0 ≢ row). absurd (unchanged (subst (IsChanged store changes t) some.1.1 (one_of (Update t some.0) (some.1.0, (row, (has, sym some.1.1), λ same. other (sym same)))))))
        (same_or_not some.0 row))
        (λ (none : HasNoRow store new t (key_in store t row)). absurd (unchanged (one_of (Delete t (key_in store t row)) ((row, (has, refl)), none))))
        (row_or_none store t (key_in store t row) (rows_in new t))

    -- and a new row stands there
    new_stands : (t : TableId) (row : Row) → Contains (rows_in new t) row → Contains (rows_in (after store old changes) t) row
    new_stands t row has = ⊎_elim
        (λ (some : (one : Row) × HasRow store old t (key_in store t row) one). ⊎_elim
        (λ (same : some.0 ≡ row). let is_old : Contains (rows_in old t) row = subst (Contains (rows_in old t)) same some.1.0 in
        all_made.keeps t row is_old (λ changed. unchanged t row is_old has changed.0 (are_changes changed.0 changed.1) changed.2))
        (λ (other : some.0 ≢ row). all_made.brings t row has (one_of (Update t row) (has, (some.0, some.1, other))))
        (same_or_not some.0 row))
        (λ (none : HasNoRow store old t (key_in store t row)). all_made.brings t row has (one_of (Insert t row) (has, none)))
        (row_or_none store t (key_in store t row) (rows_in old t))
      where
        unchanged : (t : TableId) (row : Row) → Contains (rows_in old t) row → Contains (rows_in new t) row → (change : RowChange) → IsChange store old new change → ¬ IsAt store change t (key_in store t row)
        unchanged t row is_old is_new change is at =
            let P : TableId → Type 0 = λ v. Contains (rows_in old v) row → Contains (rows_in new v) row → (key_of_change store change ≡ key_in store v row) → ⊥ in
            subst P at.0 (at_its_own change is row) is_old is_new at.1

    pub leads : AreSameTables (after store old changes) new
    leads t =
        let apart_rows : (rows : List Row) → AllPairs (λ row other. key_in store t row ≢ key_in store t other) rows → AllPairs (λ row other. row ≢ other) rows =
        λ rows apart i j d below within same. apart i j d below within (ap (key_in store t) same) in
        same_members_permute (rows_in (after store old changes) t) (rows_in new t) (apart_rows (rows_in (after store old changes) t) (all_made.apart t)) (apart_rows (rows_in new t) (new_apart store old new both t))
        (λ row has. ⊎_elim
        (λ (is_old : Contains (rows_in old t) row × (¬ IsChanged store changes t (key_in store t row))). stays_new t row is_old.0 is_old.1)
        (λ (is_new : Contains (rows_in new t) row × IsChanged store changes t (key_in store t row)). is_new.0)
        (all_made.stands t row has))
        (new_stands t)
