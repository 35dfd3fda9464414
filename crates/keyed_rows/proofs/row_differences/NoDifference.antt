-- Tables of which no rows differ are the fresh ones, but for what free cells hold.
use Rattle.std.proofs.Common.{◌≡◌, ◌≢◌, ◌⊎◌, ⊎_elim, inl, inr, ◌<◌, ◌≤◌, List, [], map, length, get_or, cond, Bool, true, false, AllPairs, Contains, IsPermutation, Option, Some, None, refl, sym, ap, subst, ◌∙◌, arith}
use Rattle.std.proofs.lemmas.Bool.{cases_lt}
use Rattle.std.proofs.lemmas.List.{get_or_default, same_lists}
use Rattle.std.proofs.lemmas.List.Elements.{All-contains, Contains-get_or}
use Rattle.std.proofs.lemmas.List.Sorted.{IsPermutation-refl}
use Rattle.std.proofs.lemmas.Option.{unwrap_or-slice_get}
use Rattle.emc_base.proofs.Lists.{item_at}
use Rattle.emc_base.proofs.Mapped.{contains_map}
use Rattle.emc_base.proofs.Numbered.{all_pairs_map, map_contains}
use Rattle.edm_types.proofs.Lookups.{rows_beyond}
use Rattle.schema_laws.proofs.state_demand.lists.Permutations.{same_members_permute}
use Rattle.round_trip.specs.Words.{TableId, ColId, Value, Null, StoreModel, Table, Column, Row, Tables, At, AreTables, cell_of, cells_of, row_key, rows_in}
use Rattle.round_trip.proofs.Lookups.{key_columns_at}
use Rattle.table_files.specs.InOrder.{AreToldApartBy}
use Rattle.keyed_rows.specs.row_differences.Differences.{DifferAt, IsRowAt}
use Rattle.keyed_rows.specs.row_differences.SameButFree.{AreSameButFree, HaveNullFreeCells, HaveRowsApart}
use Rattle.keyed_rows.proofs.row_differences.Apart.{one_or_two}
use Rattle.keyed_rows.proofs.row_differences.Erased.{are_erased, erase_row, erase_tables, erased_cell, erased_rows, length_row}
use Rattle.keyed_rows.proofs.row_differences.KeyedRows.{row_of_key}

-- rows that hold the same in each column are one
same_rows : (one two : Row) → length one.cells ≡ length two.cells → ((col : ColId) → col.index < length one.cells → cell_of one col ≡ cell_of two col) → one ≡ two
same_rows one two long same =
    let cells : one.cells ≡ two.cells = same_lists one.cells two.cells long (λ k d within.
    let col : ColId = record { index = k } in
    get_or_default one.cells k d Null within ∙ sym (unwrap_or-slice_get one.cells k Null) ∙ same col within ∙ unwrap_or-slice_get two.cells k Null
    ∙ get_or_default two.cells k Null d (subst (λ n. k < n) long within)) in
    λ i. record { cells = cells i }

module _ (store : StoreModel) (is_free : TableId → ColId → Bool) (tables fresh : Tables) (shape : AreTables store tables) (fresh_shape : AreTables store fresh)
    (apart : HaveRowsApart store tables) (fresh_apart : HaveRowsApart store fresh) (nulls : HaveNullFreeCells is_free fresh)
    (none : (t : TableId) (key : List Value) (one two : Option Row) → ¬ DifferAt store is_free tables fresh t key one two) where
  module _ (t : TableId) (table : Table) (at : At store.tables t.index table) where
    abbrev held : List Row
    held = rows_in tables t

    abbrev demanded : List Row
    demanded = rows_in fresh t

    abbrev erase : Row → Row
    erase = erase_row (is_free t)

    held_apart : AreToldApartBy table.key held
    held_apart = subst (λ cols. AreToldApartBy cols held) (key_columns_at store t table at) (apart t)

    demanded_apart : AreToldApartBy table.key demanded
    demanded_apart = subst (λ cols. AreToldApartBy cols demanded) (key_columns_at store t table at) (fresh_apart t)

    long : (row : Row) → Contains held row → length row.cells ≡ length table.cols
    long row has = All-contains (λ (r : Row). length r.cells ≡ length table.cols) held row (shape.rows t table at) has

    demanded_long : (row : Row) → Contains demanded row → length row.cells ≡ length table.cols
    demanded_long row has = All-contains (λ (r : Row). length r.cells ≡ length table.cols) demanded row (fresh_shape.rows t table at) has

    -- a held row, erased, is the fresh row of its key
    same_row : (row other : Row) → Contains held row → Contains demanded other → row_key table row ≡ row_key table other → erase row ≡ other
    same_row row other has has_other same = same_rows (erase row) other (length_row (is_free t) row ∙ long row has ∙ sym (demanded_long other has_other))
        (λ col within. erased_cell (is_free t) row col ∙ by col (item_at table.cols col.index (rw (sym (long row has), sym (length_row (is_free t) row)) within)) (is_free t col) refl)
      where
        by : (col : ColId) → (column : Column) × At table.cols col.index column → (b : Bool) → is_free t col ≡ b → cond (is_free t col) Null (cell_of row col) ≡ cell_of other col
        by col column true free =
            ap (λ b. cond b Null (cell_of row col)) free ∙ sym (All-contains (λ (r : Row). cell_of r col ≡ Null) demanded other (nulls t col free) has_other)
        by col column false kept = ap (λ b. cond b Null (cell_of row col)) kept ∙ ⊎_elim
            (λ (alike : cell_of row col ≡ cell_of other col). alike)
            (λ differ. absurd (none t (row_key table row) (Some row) (Some other) (record {
              table = table;
              is_table = at;
              held_is = (has, refl);
              demanded_is = (has_other, sym same);
              differ = (col, column.0, column.1, (kept, differ));
            })))
            (one_or_two (cell_of row col) (cell_of other col))

    -- each held row has a fresh row
    fresh_row : (row : Row) → Contains held row → (other : Row) × Contains demanded other × (row_key table row ≡ row_key table other)
    fresh_row row has = by (row_of_key table demanded (row_key table row))
      where
        by : (found : Option Row) × IsRowAt table demanded (row_key table row) found → (other : Row) × Contains demanded other × (row_key table row ≡ row_key table other)
        by (None, is) = absurd (none t (row_key table row) (Some row) None (record { table = table; is_table = at; held_is = (has, refl); demanded_is = is; differ = tt }))
        by (Some other, is) = (other, is.0, sym is.1)

    -- and each fresh row a held one
    held_row : (other : Row) → Contains demanded other → (row : Row) × Contains held row × (row_key table row ≡ row_key table other)
    held_row other has = by (row_of_key table held (row_key table other))
      where
        by : (found : Option Row) × IsRowAt table held (row_key table other) found → (row : Row) × Contains held row × (row_key table row ≡ row_key table other)
        by (None, is) = absurd (none t (row_key table other) None (Some other) (record { table = table; is_table = at; held_is = is; demanded_is = (has, refl); differ = tt }))
        by (Some row, is) = (row, is.0, is.1)

    erased_apart : AllPairs (λ one two. one ≢ two) (map erase held)
    erased_apart = all_pairs_map (λ (one two : Row). one ≢ two) erase held (λ i j d below within same.
        let one = get_or held i d in
        let two = get_or held j d in
        let has_one : Contains held one = Contains-get_or held i d (omega arith) in
        let has_two : Contains held two = Contains-get_or held j d within in
        let first = fresh_row one has_one in
        let second = fresh_row two has_two in
        let rows : first.0 ≡ second.0 = sym (same_row one first.0 has_one first.1 first.2) ∙ same ∙ same_row two second.0 has_two second.1 second.2 in
        held_apart i j d below within (first.2 ∙ ap (row_key table) rows ∙ sym second.2))

    fresh_once : AllPairs (λ one two. one ≢ two) demanded
    fresh_once i j d below within same = demanded_apart i j d below within (ap (λ (row : Row). cells_of row table.key) same)

    same_in : IsPermutation (map erase held) demanded
    same_in = same_members_permute (map erase held) demanded erased_apart fresh_once
        (λ x has.
        let row = map_contains erase held x has in
        let other = fresh_row row.0 row.1 in
        subst (Contains demanded) (sym (same_row row.0 other.0 row.1 other.1 other.2) ∙ row.2) other.1)
        (λ x has.
        let row = held_row x has in
        subst (Contains (map erase held)) (same_row row.0 x row.1 has row.2) (contains_map erase held row.0 row.1))

  same_table : (t : TableId) → IsPermutation (rows_in (erase_tables is_free tables) t) (rows_in fresh t)
  same_table t = subst (λ rows. IsPermutation rows (rows_in fresh t)) (sym (erased_rows is_free tables t)) (by (cases_lt t.index (length store.tables)))
    where
      by : (t.index < length store.tables) ⊎ (length store.tables ≤ t.index) → IsPermutation (map (erase_row (is_free t)) (rows_in tables t)) (rows_in fresh t)
      by (inl within) = let found = item_at store.tables t.index within in same_in t found.0 found.1
      by (inr beyond) =
          let no_rows : map (erase_row (is_free t)) (rows_in tables t) ≡ [] = ap (map (erase_row (is_free t))) (rows_beyond tables t (omega (arith, beyond, shape.each))) in
          let no_fresh : rows_in fresh t ≡ [] = rows_beyond fresh t (omega (arith, beyond, fresh_shape.each)) in
          subst (λ rows. IsPermutation rows (rows_in fresh t)) (sym no_rows) (subst (IsPermutation []) (sym no_fresh) (IsPermutation-refl []))

  -- so they are the same but for free cells
  pub same_but_free : AreSameButFree store is_free tables fresh
  same_but_free = record { erased = erase_tables is_free tables; are_erased = are_erased store is_free tables shape; same = same_table }
