-- What is held and what is kept of it are parts of the tables before and afterwards, with one rest.
use Rattle.std.proofs.Common.{◌≡◌, ◌≢◌, ◌<◌, ◌∙◌, ⊎_elim, inl, inr, List, length, Contains, refl, sym, ap, subst}
use Rattle.std.proofs.lemmas.List.Elements.{All-contains}
use Rattle.std.proofs.lemmas.List.Sorted.{Contains-permutation, IsPermutation-sym}
use Rattle.emc_base.specs.Lists.{At}
use Rattle.emc_base.proofs.Lists.{all_from_members, item_at}
use Rattle.round_trip.specs.Words.{AreLegalTables, AreTables, ColId, IsErasedRow, IsKeptRow, KeepsFree, Row, StoreModel, Table, TableId, Tables}
use Rattle.round_trip.specs.Words.{cell_of, cells_of, key_columns, row_key, rows_in}
use Rattle.round_trip.proofs.Lookups.{key_columns_at}
use Rattle.cells.specs.Cells.{is_free_in}
use Rattle.cells.specs.declared.cells.Cells.{Cells}
use Rattle.keyed_rows.specs.row_differences.SameButFree.{AreSameButFree, HasKeptKeys}
use Rattle.row_changes.specs.Changes.{key_in}
use Rattle.row_changes.specs.Joined.{AreJoined, AreWithOneRest}
use Rattle.row_changes.proofs.leading.Primary.{legal_apart, one_row, row_within}
use Rattle.delta_plan.specs.Keeping.{Free, HoldsHeld, HoldsKept}
use Rattle.delta_plan.proofs.grouped.KeptRows.{held_or_not, kept_key}
use Rattle.delta_plan.proofs.resting.Alike.{beside_left, beside_right, by_column, erased_key}
use Rattle.delta_plan.proofs.resting.Left.{left_apart, left_of, left_or_not, left_within}
use Rattle.delta_plan.proofs.resting.Splits.{IsSplit}

-- tables before and afterwards; what is asked of both and what stays; and what is held before and kept of it
pub record AreAsked (store : StoreModel) (cells : Cells) (Stays : TableId → Row → Type 0)
    (tables old_rows new_rows kept old_asked new_asked held fresh_kept : Tables) : Type 0 where
  pub keys_kept : HasKeptKeys store (is_free_in cells)
  pub legal : AreLegalTables store tables
  pub same : AreSameButFree store (is_free_in cells) tables old_rows
  pub keeps : KeepsFree store (Free cells) tables new_rows kept
  pub old : IsSplit store Stays old_rows old_asked
  pub new : IsSplit store Stays new_rows new_asked
  pub holds : HoldsHeld store tables old_asked held
  pub holds_kept : HoldsKept store cells held new_asked fresh_kept

module _ (store : StoreModel) (cells : Cells) (Stays : TableId → Row → Type 0) (tables old_rows new_rows kept old_asked new_asked held fresh_kept : Tables)
    (are : AreAsked store cells Stays tables old_rows new_rows kept old_asked new_asked held fresh_kept) where
  -- a row names a table of the store
  table_of : (some : Tables) → AreTables store some → (t : TableId) (row : Row) → Contains (rows_in some t) row
      → (table : Table) × At store.tables t.index table
  table_of some shape t row has = item_at store.tables t.index (subst (λ n. t.index < n) shape.each (row_within some t row has))

  long_in : (some : Tables) → AreTables store some → (t : TableId) (table : Table) → At store.tables t.index table → (row : Row) → Contains (rows_in some t) row
      → length row.cells ≡ length table.cols
  long_in some shape t table here row has = All-contains (λ (one : Row). length one.cells ≡ length table.cols) (rows_in some t) row
      (shape.rows t table here) has

  -- the key as the table tells it
  key_is : (t : TableId) (table : Table) → At store.tables t.index table → (row : Row) → key_in store t row ≡ row_key table row
  key_is t table here row = ap (cells_of row) (key_columns_at store t table here)

  by_table : (t : TableId) (table : Table) → At store.tables t.index table → (one two : Row) → key_in store t one ≡ key_in store t two
      → row_key table one ≡ row_key table two
  by_table t table here one two same = sym (key_is t table here one) ∙ same ∙ key_is t table here two

  by_store : (t : TableId) (table : Table) → At store.tables t.index table → (one two : Row) → row_key table one ≡ row_key table two
      → key_in store t one ≡ key_in store t two
  by_store t table here one two same = key_is t table here one ∙ same ∙ sym (key_is t table here two)

  -- a row and the old one that it is but for free cells have one key
  record IsErased (t : TableId) (row fresh : Row) : Type 0 where
    pub erased : IsErasedRow (Free cells t) row fresh
    pub key : key_in store t fresh ≡ key_in store t row

  is_erased : (t : TableId) (row fresh : Row) → IsErasedRow (Free cells t) row fresh → IsErased t row fresh
  is_erased t row fresh is = record { erased = is; key = erased_key (is_free_in cells t) (key_columns store t) (are.keys_kept t) row fresh is }

  fresh_of : (t : TableId) (row : Row) → Contains (rows_in tables t) row → (fresh : Row) × Contains (rows_in old_rows t) fresh × IsErased t row fresh
  fresh_of t row has =
      let found = beside_left (IsErasedRow (Free cells t)) (rows_in tables t) (rows_in are.same.erased t) (are.same.are_erased.rows t) row has in
      (found.0, Contains-permutation (rows_in are.same.erased t) (rows_in old_rows t) found.0 (are.same.same t) found.1, is_erased t row found.0 found.2)

  row_of : (t : TableId) (fresh : Row) → Contains (rows_in old_rows t) fresh → (row : Row) × Contains (rows_in tables t) row × IsErased t row fresh
  row_of t fresh has =
      let back = IsPermutation-sym (rows_in are.same.erased t) (rows_in old_rows t) (are.same.same t) in
      let found = beside_right (IsErasedRow (Free cells t)) (rows_in tables t) (rows_in are.same.erased t) (are.same.are_erased.rows t) fresh
      (Contains-permutation (rows_in old_rows t) (rows_in are.same.erased t) fresh back has) in
      (found.0, found.1, is_erased t found.0 fresh found.2)

  module _ (t : TableId) (table : Table) (here : At store.tables t.index table) where
    abbrev IsKept : List Row → Row → Row → Type 0
    IsKept rows fresh row = IsKeptRow (Free cells t) table rows fresh row

    kept_keeps_key : (rows : List Row) (fresh row : Row) → IsKept rows fresh row → key_in store t row ≡ key_in store t fresh
    kept_keeps_key rows fresh row is = by_store t table here row fresh (kept_key (is_free_in cells t) table rows rows fresh row is)

    -- what a free cell of a kept row holds
    stays_cell : (rows : List Row) (fresh row : Row) → IsKept rows fresh row → (before : Row) → Contains rows before
        → row_key table before ≡ row_key table fresh
        → (col : ColId) → Free cells t col → cell_of row col ≡ cell_of before col
    stays_cell rows fresh row is before has same = All-contains
        (λ (before : Row). row_key table before ≡ row_key table fresh → (col : ColId) → Free cells t col
        → cell_of row col ≡ cell_of before col) rows before is.stays has same

    new_cell : (rows : List Row) (fresh row : Row) → IsKept rows fresh row
        → ((before : Row) → Contains rows before → row_key table before ≢ row_key table fresh)
        → (col : ColId) → Free cells t col → cell_of row col ≡ cell_of fresh col
    new_cell rows fresh row is none = is.new (all_from_members (λ (before : Row). row_key table before ≢ row_key table fresh) rows none)

    held_within : (row : Row) → Contains (rows_in held t) row → Contains (rows_in tables t) row
    held_within row has = (All-contains (λ (row : Row). Contains (rows_in tables t) row ×
        ((one : Row) × Contains (rows_in old_asked t) one × (cells_of one table.key ≡ cells_of row table.key)))
        (rows_in held t) row (are.holds.rows t table here).only has).0

    -- a row that has the key of an asked one is held
    is_held : (fresh : Row) → Contains (rows_in new_asked t) fresh → (row : Row) → Contains (rows_in tables t) row
        → row_key table row ≡ row_key table fresh → Contains (rows_in held t) row
    is_held fresh asked row has same =
        let was = fresh_of t row has in
        let is : IsErased t row was.0 = was.2 in
        ⊎_elim
        (λ (part : Contains (rows_in old_asked t) was.0). (are.holds.rows t table here).all row was.0 has part (by_table t table here was.0 row is.key))
        (λ (still : Stays t was.0). absurd (are.new.apart t fresh was.0 asked still (by_store t table here fresh row (sym same) ∙ sym is.key)))
        (are.old.either t was.0 was.1)

    -- a row that is kept from an asked one is one, whether it is kept from all rows or from those that are held
    kept_once : (fresh : Row) → Contains (rows_in new_asked t) fresh → (row part : Row) → length row.cells ≡ length table.cols
        → length part.cells ≡ length table.cols
        → IsKept (rows_in tables t) fresh row → IsKept (rows_in held t) fresh part → row ≡ part
    kept_once fresh asked row part row_long part_long is is_part = by_column (is_free_in cells t) row part (row_long ∙ sym part_long)
        (λ col free. ⊎_elim
        (λ (found : (one : Row) × Contains (rows_in tables t) one × (row_key table one ≡ row_key table fresh)).
        stays_cell (rows_in tables t) fresh row is found.0 found.1 found.2 col free
        ∙ sym (stays_cell (rows_in held t) fresh part is_part found.0 (is_held fresh asked found.0 found.1 found.2) found.2 col free))
        (λ (none : (one : Row) → Contains (rows_in tables t) one → row_key table one ≢ row_key table fresh).
        new_cell (rows_in tables t) fresh row is none col free
        ∙ sym (new_cell (rows_in held t) fresh part is_part (λ one has. none one (held_within one has)) col free))
        (held_or_not (is_free_in cells t) table (rows_in tables t) (rows_in tables t) (rows_in tables t) (row_key table fresh)))
        (λ col other. is.rest col other ∙ sym (is_part.rest col other))

    -- a row that is kept from one that stays is that one as the tables hold it
    kept_as_was : (fresh was row : Row) → IsErased t was fresh → Contains (rows_in tables t) was → length row.cells ≡ length table.cols
        → IsKept (rows_in tables t) fresh row → row ≡ was
    kept_as_was fresh was row from has long is = by_column (is_free_in cells t) row was (long ∙ sym (long_in tables are.legal.shape t table here was has))
        (λ col free. stays_cell (rows_in tables t) fresh row is was has (by_table t table here was fresh (sym from.key)) col free)
        (λ col other. is.rest col other ∙ from.erased.rest col other)

    kept_from : (row : Row) → Contains (rows_in kept t) row → (fresh : Row) × Contains (rows_in new_rows t) fresh × IsKept (rows_in tables t) fresh row
    kept_from row has = beside_right (IsKept (rows_in tables t)) (rows_in new_rows t) (rows_in kept t) (are.keeps.rows t table here) row has

    kept_as : (fresh : Row) → Contains (rows_in new_rows t) fresh → (row : Row) × Contains (rows_in kept t) row × IsKept (rows_in tables t) fresh row
    kept_as fresh has = beside_left (IsKept (rows_in tables t)) (rows_in new_rows t) (rows_in kept t) (are.keeps.rows t table here) fresh has

    part_from : (row : Row) → Contains (rows_in fresh_kept t) row → (fresh : Row) × Contains (rows_in new_asked t) fresh × IsKept (rows_in held t) fresh row
    part_from row has = All-contains (λ (row : Row). (one : Row) × Contains (rows_in new_asked t) one × IsKept (rows_in held t) one row)
        (rows_in fresh_kept t) row (are.holds_kept.rows t table here).only has

    kept_long : (row : Row) → Contains (rows_in kept t) row → length row.cells ≡ length table.cols
    kept_long = long_in kept are.keeps.shape t table here

    part_long : (row : Row) → Contains (rows_in fresh_kept t) row → length row.cells ≡ length table.cols
    part_long = long_in fresh_kept are.holds_kept.shape t table here

  abbrev rest : Tables
  rest = left_of store old_asked tables

  -- a row of the rest is one that stays
  rest_stays : (t : TableId) (row : Row) → Contains (rows_in rest t) row → (fresh : Row) × Stays t fresh × IsErased t row fresh
  rest_stays t row has =
      let was = fresh_of t row (left_within store old_asked tables t row has) in
      let is : IsErased t row was.0 = was.2 in
      ⊎_elim
      (λ (part : Contains (rows_in old_asked t) was.0). absurd (left_apart store old_asked tables t row has was.0 part is.key))
      (λ (still : Stays t was.0). (was.0, still, is))
      (are.old.either t was.0 was.1)

  -- and the other way round
  stays_left : (t : TableId) (fresh row : Row) → Stays t fresh → IsErased t row fresh → Contains (rows_in tables t) row → Contains (rows_in rest t) row
  stays_left t fresh row still is has = ⊎_elim
      (λ (found : (one : Row) × Contains (rows_in old_asked t) one × (key_in store t one ≡ key_in store t row)).
      absurd (are.old.apart t found.0 fresh found.1 still (found.2 ∙ sym is.key)))
      (λ (left : Contains (rows_in rest t) row). left)
      (left_or_not store old_asked tables t row has)

  rest_once : (t : TableId) (row other : Row) → Contains (rows_in rest t) row → Contains (rows_in rest t) other → key_in store t row ≡ key_in store t other
      → row ≡ other
  rest_once t row other has has_other same = one_row store tables t (legal_apart store tables are.legal t) (key_in store t other) row other
      (left_within store old_asked tables t row has, same) (left_within store old_asked tables t other has_other, refl)

  before : AreJoined store held rest tables
  before = record {
    either = λ t row has. ⊎_elim
        (λ (found : (one : Row) × Contains (rows_in old_asked t) one × (key_in store t one ≡ key_in store t row)).
        (let table = table_of tables are.legal.shape t row has in
        inl ((are.holds.rows t table.0 table.1).all row found.0 has found.1 (by_table t table.0 table.1 found.0 row found.2))))
        (λ (left : Contains (rows_in rest t) row). inr left)
        (left_or_not store old_asked tables t row has);
    of_part = λ t row has. (let table = table_of held are.holds.shape t row has in held_within t table.0 table.1 row has);
    of_rest = left_within store old_asked tables;
    apart = λ t row other has left same.
        (let table = table_of held are.holds.shape t row has in
        let wanted = (All-contains (λ (row : Row). Contains (rows_in tables t) row ×
        ((one : Row) × Contains (rows_in old_asked t) one × (cells_of one table.0.key ≡ cells_of row table.0.key)))
        (rows_in held t) row (are.holds.rows t table.0 table.1).only has).1 in
        left_apart store old_asked tables t other left wanted.0 wanted.1 (by_store t table.0 table.1 wanted.0 row wanted.2 ∙ same));
    once = rest_once;
  }

  afterwards : AreJoined store fresh_kept rest kept
  afterwards = record {
    either = λ t row has.
        (let table = table_of kept are.keeps.shape t row has in
        let from = kept_from t table.0 table.1 row has in
        ⊎_elim
        (λ (asked : Contains (rows_in new_asked t) from.0).
        (let part = (are.holds_kept.rows t table.0 table.1).all from.0 asked in
        let one = kept_once t table.0 table.1 from.0 asked row part.0 (kept_long t table.0 table.1 row has)
        (part_long t table.0 table.1 part.0 part.1) from.2 part.2 in
        inl (subst (Contains (rows_in fresh_kept t)) (sym one) part.1)))
        (λ (still : Stays t from.0).
        (let was = row_of t from.0 (are.old.of_stays t from.0 still) in
        let one = kept_as_was t table.0 table.1 from.0 was.0 row was.2 was.1 (kept_long t table.0 table.1 row has) from.2 in
        inr (subst (Contains (rows_in rest t)) (sym one) (stays_left t from.0 was.0 still was.2 was.1))))
        (are.new.either t from.0 from.1));
    of_part = λ t row has.
        (let table = table_of fresh_kept are.holds_kept.shape t row has in
        let from = part_from t table.0 table.1 row has in
        let whole = kept_as t table.0 table.1 from.0 (are.new.of_asked t from.0 from.1) in
        let one = kept_once t table.0 table.1 from.0 from.1 whole.0 row (kept_long t table.0 table.1 whole.0 whole.1)
        (part_long t table.0 table.1 row has) whole.2 from.2 in
        subst (Contains (rows_in kept t)) one whole.1);
    of_rest = λ t row has.
        (let within = left_within store old_asked tables t row has in
        let table = table_of tables are.legal.shape t row within in
        let still = rest_stays t row has in
        let whole = kept_as t table.0 table.1 still.0 (are.new.of_stays t still.0 still.1) in
        let one = kept_as_was t table.0 table.1 still.0 row whole.0 still.2 within (kept_long t table.0 table.1 whole.0 whole.1) whole.2 in
        subst (Contains (rows_in kept t)) one whole.1);
    apart = λ t row other has left same.
        (let table = table_of fresh_kept are.holds_kept.shape t row has in
        let from = part_from t table.0 table.1 row has in
        let still = rest_stays t other left in
        let is : IsErased t other still.0 = still.2 in
        are.new.apart t from.0 still.0 from.1 still.1 (sym (kept_keeps_key t table.0 table.1 (rows_in held t) from.0 row from.2) ∙ same ∙ sym is.key));
    once = rest_once;
  }

  -- they are with one rest
  pub one_rest : (rest : Tables) × AreWithOneRest store held fresh_kept rest tables kept
  one_rest = (rest, record { old = before; new = afterwards })
