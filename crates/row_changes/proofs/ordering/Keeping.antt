-- Where none of the changes that aren't made has to come before one that is, each row that refers finds a row.
use Rattle.std.proofs.Common.{◌≡◌, ◌≢◌, ⊎_elim, inl, inr, List, Contains, refl, sym, ap, subst, ◌∙◌}
use Rattle.round_trip.specs.Words.{ForeignKey, KeepsForeignKey, Refers, Row, StoreModel, TableId, Tables, Value, rows_in}
use Rattle.row_changes.specs.declared.change.RowChange.{RowChange}
use Rattle.row_changes.specs.declared.change.RowChange.TheVariants.{Insert, Update, Delete}
use Rattle.row_changes.specs.Changes.{HasNoRow, HasRow, key_in, key_of_change, table_of}
use Rattle.row_changes.specs.Differences.{AreBothLegal, AreDifference, IsChange}
use Rattle.row_changes.specs.Orders.{InsertsFor, LeavesFor, MustPrecede, RefersTo}
use Rattle.row_changes.proofs.leading.Leads.{row_or_none, same_or_not}
use Rattle.row_changes.proofs.leading.Stepping.{AreBetween, IsChanged, changed_or_not}
use Rattle.row_changes.proofs.ordering.Targets.{finds_target, keeps_key, one_key, one_target}

module _ (store : StoreModel) (old new : Tables) (both : AreBothLegal store old new) (changes : List RowChange) (difference : AreDifference store old new changes)
    (are : (change : RowChange) → Contains changes change → IsChange store old new change)
    (done : List RowChange) (tables : Tables) (between : AreBetween store old new both done tables) (within : (change : RowChange) → Contains done change → Contains changes change)
    (respects : (one other : RowChange) → Contains changes one → ¬ Contains done one → Contains done other → ¬ MustPrecede store old new one other)
    (key : ForeignKey) (is_key : Contains store.keys key) where
  -- where a row of the old tables at the key of a target stands, the target is shown
  abbrev Finds : Row → Type 0
  Finds row = (target : Row) × Contains (rows_in tables key.to) target × RefersTo key row target

  shown_by : (row target other : Row) → RefersTo key row target → Contains (rows_in tables key.to) other → key_in store key.to other ≡ key_in store key.to target → Finds row
  shown_by row target other refers stands same = (other, stands, (refers.0, one_target store both.sound key is_key other target same ∙ refers.1))

  -- a target that stands in no tables afterwards, and to which a row refers that stands there
  lost : (row target : Row) → Contains (rows_in new key.from) row → RefersTo key row target → HasNoRow store new key.to (key_in store key.to target) → ⊥
  lost row target has refers none =
      let found = finds_target store new both.new_legal.keys key is_key row has refers.0 in
      none found.0 (found.1, one_key store both.sound key is_key found.0 target (found.2.1 ∙ sym refers.1))

  -- the same of the tables before
  lost_before : (row target : Row) → Contains (rows_in old key.from) row → RefersTo key row target → HasNoRow store old key.to (key_in store key.to target) → ⊥
  lost_before row target has refers none =
      let found = finds_target store old both.old_legal.keys key is_key row has refers.0 in
      none found.0 (found.1, one_key store both.sound key is_key found.0 target (found.2.1 ∙ sym refers.1))

  -- an old row that isn't changed yet, and whose target is deleted already
  left : (row target : Row) → Contains (rows_in old key.from) row → ¬ IsChanged store done key.from (key_in store key.from row) → Contains (rows_in old key.to) target → RefersTo key row target
      → Contains done (Delete key.to (key_in store key.to target)) → HasNoRow store new key.to (key_in store key.to target) → ⊥
  left row target has unchanged held refers deleted none = ⊎_elim
      (λ (some : (one : Row) × HasRow store new key.from (key_in store key.from row) one). ⊎_elim
      (λ (same : some.0 ≡ row). lost row target (subst (Contains (rows_in new key.from)) same some.1.0) refers none)
      (λ (other : some.0 ≢ row). goes_first (Update key.from some.0) (some.1.0, (row, (has, sym some.1.1), λ same. other (sym same))) refl some.1.1)
      (same_or_not some.0 row))
      (λ (nothing : HasNoRow store new key.from (key_in store key.from row)). goes_first (Delete key.from (key_in store key.from row)) ((row, (has, refl)), nothing) refl refl)
      (row_or_none store key.from (key_in store key.from row) (rows_in new key.from))
    where
      goes_first : (change : RowChange) → IsChange store old new change → table_of change ≡ key.from → key_of_change store change ≡ key_in store key.from row → ⊥
      goes_first change is at_table at_key =
          let not_made : ¬ Contains done change = λ made. unchanged (change, made, (at_table, at_key)) in
          let by : LeavesFor store old new key change (Delete key.to (key_in store key.to target)) = record {
            target = target;
            held = held;
            deletes = refl;
            from = at_table;
            row = row;
            stood = (has, sym at_key);
            refers = refers;
            does_not = λ now stands refers_too. lost now target stands.0 refers_too none;
          } in
          respects change (Delete key.to (key_in store key.to target)) (difference.all change is) not_made deleted (record {
            apart = λ same. not_made (subst (Contains done) (sym same) deleted);
            key = key;
            is_key = is_key;
            by_key = inr by;
          })

  -- the target of an old row that isn't changed yet
  of_old : (row : Row) → Contains (rows_in old key.from) row → ¬ IsChanged store done key.from (key_in store key.from row) → Refers key row → Finds row
  of_old row has unchanged refers =
      let found = finds_target store old both.old_legal.keys key is_key row has refers in
      by found.0 found.1 found.2
    where
      by_change : (target : Row) → Contains (rows_in old key.to) target → RefersTo key row target → (change : RowChange) → Contains done change → IsChange store old new change → table_of change ≡ key.to
          → key_of_change store change ≡ key_in store key.to target → Finds row
      by_change target held refers (Insert t one) made is at_table at_key =
          let P : TableId → Type 0 = λ u. HasNoRow store old u (key_in store t one) in
          absurd (subst P at_table is.1 target (held, sym at_key))
      by_change target held refers (Update t one) made is at_table at_key =
          let there : Contains (rows_in new key.to) one = subst (λ (u : TableId). Contains (rows_in new u) one) at_table is.0 in
          let same : key_in store key.to one ≡ key_in store key.to target = ap (λ (u : TableId). key_in store u one) (sym at_table) ∙ at_key in
          shown_by row target one refers (between.brings key.to one there (Update t one, made, (at_table, ap (λ (u : TableId). key_in store u one) at_table))) same
      by_change target held refers (Delete t gone) made is at_table at_key =
          let itself : Delete t gone ≡ Delete key.to (key_in store key.to target) = λ k. Delete (at_table k) (at_key k) in
          let none : HasNoRow store new key.to (key_in store key.to target) =
          (let P : TableId × List Value → Type 0 = λ p. HasNoRow store new p.0 p.1 in subst P (λ k. (at_table k, at_key k)) is.1) in
          absurd (left row target has unchanged held refers (subst (Contains done) itself made) none)

      by : (target : Row) → Contains (rows_in old key.to) target → RefersTo key row target → Finds row
      by target held refers = ⊎_elim
          (λ (changed : IsChanged store done key.to (key_in store key.to target)). by_change target held refers changed.0 changed.1 (are changed.0 (within changed.0 changed.1)) changed.2.0 changed.2.1)
          (λ (stays : ¬ IsChanged store done key.to (key_in store key.to target)). (target, between.keeps key.to target held stays, refers))
          (changed_or_not store key.to (key_in store key.to target) done)

  -- a target that is to be inserted, and of which a row that came already shows the key
  came : (row target : Row) (other : RowChange) → Contains done other → table_of other ≡ key.from → key_of_change store other ≡ key_in store key.from row → Contains (rows_in new key.from) row
      → Contains (rows_in new key.to) target → RefersTo key row target → HasNoRow store old key.to (key_in store key.to target) → ¬ IsChanged store done key.to (key_in store key.to target) → ⊥
  came row target other made at_table at_key has there refers none unchanged =
      let change : RowChange = Insert key.to target in
      let is : IsChange store old new change = (there, none) in
      let not_made : ¬ Contains done change = λ made_too. unchanged (change, made_too, (refl, refl)) in
      let by : InsertsFor store old new key change other = record {
        target = target;
        inserts = refl;
        from = at_table;
        row = row;
        stands = (has, sym at_key);
        refers = refers;
        did_not = λ before stood refers_too. lost_before before target stood.0 refers_too none;
      } in
      respects change other (difference.all change is) not_made made (record {
        apart = λ same. not_made (subst (Contains done) (sym same) made);
        key = key;
        is_key = is_key;
        by_key = inl by;
      })

  -- the target of a new row
  of_new : (row : Row) → Contains (rows_in new key.from) row → IsChanged store done key.from (key_in store key.from row) → Refers key row → Finds row
  of_new row has (other, made, at) refers =
      let found = finds_target store new both.new_legal.keys key is_key row has refers in
      ⊎_elim
      (λ (changed : IsChanged store done key.to (key_in store key.to found.0)). (found.0, between.brings key.to found.0 found.1 changed, found.2))
      (λ (stays : ¬ IsChanged store done key.to (key_in store key.to found.0)). ⊎_elim
      (λ (some : (one : Row) × HasRow store old key.to (key_in store key.to found.0) one).
      shown_by row found.0 some.0 found.2 (between.keeps key.to some.0 some.1.0 (λ changed. stays (subst (IsChanged store done key.to) some.1.1 changed))) some.1.1)
      (λ (none : HasNoRow store old key.to (key_in store key.to found.0)). absurd (came row found.0 other made at.0 at.1 has found.1 found.2 none stays))
      (row_or_none store key.to (key_in store key.to found.0) (rows_in old key.to)))
      (changed_or_not store key.to (key_in store key.to found.0) done)

  pub kept : KeepsForeignKey tables key
  kept = keeps_key tables key (λ row stands refers. ⊎_elim
      (λ (is_old : Contains (rows_in old key.from) row × (¬ IsChanged store done key.from (key_in store key.from row))). of_old row is_old.0 is_old.1 refers)
      (λ (is_new : Contains (rows_in new key.from) row × IsChanged store done key.from (key_in store key.from row)). of_new row is_new.0 is_new.1 refers)
      (between.stands key.from row stands))
