-- Tables of which no breach is found are legal.
use Rattle.std.proofs.Common.{◌≡◌, ◌≢◌, ◌⊎◌, inl, inr, ℕ, ◌<◌, List, [], ◌∷◌, length, get_or, Option, Some, None, Bool, true, false, AllPairs, IsTrue, slice_get, unwrap_or, refl, subst, arith}
use Rattle.std.specs.Cmp.Lexicographic.{slice_cmp}
use Rattle.std.specs.List.{list_any}
use Rattle.std.specs.Ordering.{eq_by_cmp}
use Rattle.std.proofs.lemmas.Bool.{both_ways}
use Rattle.std.proofs.lemmas.List.Folds.{Any-from_list_any, list_any-from_Any}
use Rattle.std.proofs.lemmas.Option.{slice_get-get_or, slice_get_within}
use Rattle.emc_base.specs.Lists.{At}
use Rattle.emc_base.specs.Order.{value_cmp}
use Rattle.emc_base.proofs.Lists.{item_at}
use Rattle.emc_base.proofs.facts.Keys.{tied_keys}
use Rattle.groupings.specs.least_fault.Least.{IsLeast}
use Rattle.round_trip.specs.Words.{Value, Null, place_at, StoreModel, Table, Column, ForeignKey, Row, ColId, TableId, InDomain, Tables, rows_in, cell_of, cells_of, row_key, AreTables, AreLegalTables, AreLegalRows, HasAllowedNullCells, HasCellsInDomain, Refers, FindsRow, KeepsForeignKey}
use Rattle.round_trip.specs.legality.TableBreaches.{StandsAtColumn}
use Rattle.entity_state.specs.breach_order.Founds.{found_cmp}
use Rattle.entity_state.proofs.breach_order.Domains.{domain_decided}
use Rattle.entity_state.proofs.breach_order.SameValues.{null_or}
use Rattle.entity_state.proofs.breach_order.Turns.{all_at}
use Rattle.table_files.specs.table_legality.Tells.{BreaksTables}

-- a table that has a row is there
has_list : (tables : Tables) (t : TableId) (i : ℕ) (row : Row) → At (rows_in tables t) i row → t.index < length tables
has_list tables t i row here = by (slice_get tables t.index) refl here
  where
    by : (list : Option (List Row)) → slice_get tables t.index ≡ list → At (unwrap_or list []) i row → t.index < length tables
    by None none at = absurd (let within : i < 0 = slice_get_within [] i row at in omega arith)
    by (Some rows) is at = slice_get_within tables t.index rows is

module _ (store : StoreModel) (tables : Tables) (none : IsLeast found_cmp (BreaksTables store tables) None) where
  module _ (t : TableId) (table : Table) (here : At store.tables t.index table) (i : ℕ) (row : Row) (stands : At (rows_in tables t) i row) where
    at_column : (col : ColId) (column : Column) → At table.cols col.index column
        → StandsAtColumn store tables (t.index ∷ i ∷ col.index ∷ []) (place_at table.name (row_key table row) column.name) (cell_of row col) column
    at_column col column is_column = record {
      t = t.index;
      i = i;
      j = col.index;
      table = table;
      row = row;
      stands = record { is_table = here; is_row = stands };
      is_column = is_column;
      value_is = refl;
      spot_is = refl;
      place_is = refl;
    }

    nulls : HasAllowedNullCells table row
    nulls col column is_column null = by column.nullable refl
      where
        by : (may : Bool) → column.nullable ≡ may → IsTrue column.nullable
        by true is = is
        by false is = absurd (none (record { rule = 1; spot = t.index ∷ i ∷ col.index ∷ []; place = place_at table.name (row_key table row) column.name })
            (inl (
              refl,
              (
                column,
                subst (λ (v : Value). StandsAtColumn store tables (t.index ∷ i ∷ col.index ∷ []) (place_at table.name (row_key table row) column.name) v column) null
                    (at_column col column is_column),
                is,
              ),
            )))

    domains : HasCellsInDomain table row
    domains col column is_column = by (null_or (cell_of row col)) (domain_decided (cell_of row col) column.kind)
      where
        by : (cell_of row col ≡ Null) ⊎ (cell_of row col ≢ Null) → InDomain (cell_of row col) column.kind ⊎ ¬ InDomain (cell_of row col) column.kind
            → (cell_of row col ≡ Null) ⊎ InDomain (cell_of row col) column.kind
        by (inl null) domain = inl null
        by (inr value) (inl inside) = inr inside
        by (inr value) (inr outside) = absurd (none (record { rule = 2; spot = t.index ∷ i ∷ col.index ∷ []; place = place_at table.name (row_key table row) column.name })
            (inr (inl (refl, (cell_of row col, column, at_column col column is_column, value, outside)))))

  module _ (t : TableId) (table : Table) (here : At store.tables t.index table) where
    keys_apart : AllPairs (λ row other. row_key table row ≢ row_key table other) (rows_in tables t)
    keys_apart i j d before within same =
        let rows : List Row = rows_in tables t in
        let inside : i < length rows = omega arith in
        let row : Row = get_or rows j d in
        none (record { rule = 3; spot = t.index ∷ j ∷ []; place = place_at table.name (row_key table row) [] })
        (inr (inr (inl (
          refl,
          record {
            t = t.index;
            i = j;
            earlier = i;
            table = table;
            row = row;
            other = get_or rows i d;
            stands = record { is_table = here; is_row = slice_get-get_or rows j d within };
            other_stands = record { is_table = here; is_row = slice_get-get_or rows i d inside };
            before = before;
            same = same;
            spot_is = refl;
            place_is = refl;
          },
        ))))

    legal_rows : AreLegalRows table (rows_in tables t)
    legal_rows = record {
      nulls = all_at (HasAllowedNullCells table) (rows_in tables t) (nulls t table here);
      domains = all_at (HasCellsInDomain table) (rows_in tables t) (domains t table here);
      keys = keys_apart;
    }

  module _ (shape : AreTables store tables) (k : ℕ) (key : ForeignKey) (is_key : At store.keys k key) (i : ℕ) (row : Row) (stands : At (rows_in tables key.from) i row) (refers : Refers key row) where
    abbrev Finds : Row → Type 0
    Finds target = cells_of target key.to_cols ≡ cells_of row key.from_cols

    is_found : Row → Bool
    is_found target = eq_by_cmp (slice_cmp value_cmp) (cells_of target key.to_cols) (cells_of row key.from_cols)

    finds_row : FindsRow tables key row
    unfolding is_found
    finds_row = by (list_any is_found (rows_in tables key.to)) refl
      where
        by : (test : Bool) → list_any is_found (rows_in tables key.to) ≡ test → FindsRow tables key row
        by true is =
            let some = Any-from_list_any is_found (rows_in tables key.to) is in
            (some.0, some.1, some.2, some.3, (tied_keys (cells_of some.1 key.to_cols) (cells_of row key.from_cols)).0 some.4)
        by false is =
            let listed : key.from.index < length tables = has_list tables key.from i row stands in
            let declared : key.from.index < length store.tables = subst (λ n. key.from.index < n) shape.each listed in
            let table = item_at store.tables key.from.index declared in
            absurd (none (record { rule = 4; spot = key.from.index ∷ i ∷ k ∷ []; place = place_at table.0.name (row_key table.0 row) key.name })
            (inr (inr (inr (
              refl,
              record {
                i = i;
                k = k;
                table = table.0;
                row = row;
                key = key;
                is_key = is_key;
                stands = record { is_table = table.1; is_row = stands };
                refers = refers;
                broken = λ finds. both_ways (list_any is_found (rows_in tables key.to)) is (list_any-from_Any is_found (rows_in tables key.to)
                    (finds.0, finds.1, finds.2, finds.3, (tied_keys (cells_of finds.1 key.to_cols) (cells_of row key.from_cols)).1 finds.4));
                spot_is = refl;
                place_is = refl;
              },
            )))))

  -- no breach is found
  pub legal_tables : AreTables store tables → AreLegalTables store tables
  legal_tables shape = record {
    shape = shape;
    rows = legal_rows;
    keys = all_at (KeepsForeignKey tables) store.keys (λ k key is_key. all_at (λ row. Refers key row → FindsRow tables key row) (rows_in tables key.from) (finds_row shape k key is_key));
  }
