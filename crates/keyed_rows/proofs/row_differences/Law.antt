-- Tables that are the fresh ones but for free cells have no rows that differ.
use Rattle.std.proofs.Common.{◌≡◌, ◌≢◌, List, Bool, false, true≢false, IsTrue, All, Contains, Option, Some, None, sym, ap, subst, ◌∙◌}
use Rattle.std.proofs.lemmas.List.Elements.{All-contains}
use Rattle.std.proofs.lemmas.List.Sorted.{Contains-permutation, IsPermutation-sym}
use Rattle.emc_base.proofs.Mapped.{contains_at}
use Rattle.emc_base.proofs.facts.Zipped.{zipped_left, zipped_right}
use Rattle.emc_base.proofs.facts.Standing.{place_of_member}
use Rattle.schema_laws.proofs.state_demand.lists.Places.{map_agree}
use Rattle.round_trip.specs.Words.{TableId, ColId, Value, StoreModel, Table, Row, Tables, At, IsErasedRow, cell_of, row_key, rows_in}
use Rattle.round_trip.proofs.Lookups.{key_columns_at}
use Rattle.table_files.specs.InOrder.{AreToldApartBy}
use Rattle.keyed_rows.specs.row_differences.Differences.{IsRowAt, RowsDiffer}
use Rattle.keyed_rows.specs.row_differences.SameButFree.{AreSameButFree, HasKeptKeys, HaveRowsApart}
use Rattle.keyed_rows.proofs.row_differences.KeyedRows.{one_row}

module _ (store : StoreModel) (is_free : TableId → ColId → Bool) (tables fresh : Tables) (kept : HasKeptKeys store is_free) (apart : HaveRowsApart store fresh)
    (are : AreSameButFree store is_free tables fresh) (t : TableId) (table : Table) (at : At store.tables t.index table) where
  abbrev Erases : Row → Row → Type 0
  Erases = IsErasedRow (λ col. IsTrue (is_free t col))

  -- erasing keeps the key
  key_kept : (row erased : Row) → Erases row erased → row_key table erased ≡ row_key table row
  key_kept row erased erases = map_agree (cell_of erased) (cell_of row) table.key (λ col has. erases.rest col (λ free.
      true≢false (sym free ∙ All-contains (λ (c : ColId). is_free t c ≡ false) table.key col (subst (All (λ (c : ColId). is_free t c ≡ false)) (key_columns_at store t table at) (kept t)) has)))

  -- each held row, erased, is a fresh one
  fresh_row : (row : Row) → Contains (rows_in tables t) row → (erased : Row) × Contains (rows_in fresh t) erased × Erases row erased
  fresh_row row has =
      let found = zipped_left Erases (rows_in tables t) (rows_in are.erased t) (are.are_erased.rows t) has.0 row (place_of_member (rows_in tables t) row has) in
      (found.0, Contains-permutation (rows_in are.erased t) (rows_in fresh t) found.0 (are.same t) (contains_at (rows_in are.erased t) has.0 found.0 found.1), found.2)

  -- and each fresh row is one so
  held_row : (erased : Row) → Contains (rows_in fresh t) erased → (row : Row) × Contains (rows_in tables t) row × Erases row erased
  held_row erased has =
      let among = Contains-permutation (rows_in fresh t) (rows_in are.erased t) erased (IsPermutation-sym (rows_in are.erased t) (rows_in fresh t) (are.same t)) has in
      let found = zipped_right Erases (rows_in tables t) (rows_in are.erased t) (are.are_erased.rows t) among.0 erased (place_of_member (rows_in are.erased t) erased among) in
      (found.0, contains_at (rows_in tables t) among.0 found.0 found.1, found.2)

  fresh_apart : AreToldApartBy table.key (rows_in fresh t)
  fresh_apart = subst (λ cols. AreToldApartBy cols (rows_in fresh t)) (key_columns_at store t table at) (apart t)

  -- so the rows of no key differ
  pub none_differs : (key : List Value) (held demanded : Option Row) → IsRowAt table (rows_in tables t) key held → IsRowAt table (rows_in fresh t) key demanded
      → ¬ RowsDiffer (is_free t) table held demanded
  none_differs key None None is_held is_demanded differ = absurd differ
  none_differs key (Some row) None is_held is_demanded differ =
      let found = fresh_row row is_held.0 in
      All-contains (λ r. row_key table r ≢ key) (rows_in fresh t) found.0 is_demanded found.1 (key_kept row found.0 found.2 ∙ is_held.1)
  none_differs key None (Some other) is_held is_demanded differ =
      let found = held_row other is_demanded.0 in
      All-contains (λ r. row_key table r ≢ key) (rows_in tables t) found.0 is_held found.1 (sym (key_kept found.0 other found.2) ∙ is_demanded.1)
  none_differs key (Some row) (Some other) is_held is_demanded differ =
      let found = fresh_row row is_held.0 in
      let same : found.0 ≡ other = one_row table.key (rows_in fresh t) fresh_apart found.0 other found.1 is_demanded.0 (key_kept row found.0 found.2 ∙ is_held.1 ∙ sym is_demanded.1) in
      differ.3.1 (sym (found.2.rest differ.0 (λ free. true≢false (sym free ∙ differ.3.0))) ∙ ap (λ (r : Row). cell_of r differ.0) same)
