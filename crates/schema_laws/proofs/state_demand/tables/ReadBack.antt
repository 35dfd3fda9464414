-- Rows and cells of a state's tables, told back by its writings; and no clash where none is shown.
use Rattle.std.proofs.Common.{◌≡◌, ◌≢◌, inl, inr, ⊎_elim, List, Any, Contains, refl, sym, ap, subst, ◌∙◌}
use Rattle.std.proofs.lemmas.List.Elements.{All-contains}
use Rattle.round_trip.specs.Words.{TableId, ColId, Value, Null, Place, place_at, Table, Column, Fragment, LinkFragment, Schema, Row, State, At, Tables, rows_in, cell_of, row_key, Writing, Writes, DemandsRow, DemandsCell, HasNoClash, HasDemandedCells, AreDemandedRows, TablesAre}
use Rattle.round_trip.specs.FailsAt.{Clashes}
use Rattle.schema_laws.specs.state_demand.Writings.{AreWritings}
use Rattle.schema_laws.specs.state_demand.MadeTables.{first_or_null, values_at}
use Rattle.schema_laws.specs.state_demand.WellWritten.{HasTables, IsWellWritten}
use Rattle.schema_laws.proofs.state_demand.writings.Decisions.{value_or_not}
use Rattle.schema_laws.proofs.state_demand.writings.Demanded.{first_demanded, first_is_demanded}
use Rattle.schema_laws.proofs.state_demand.lists.Lists.{of_any}
use Rattle.schema_laws.proofs.state_demand.tables.Tables.{fills_col, fits_here}

module _ (schema : Schema) (state : State) (tables : Tables) (are : TablesAre schema state tables) (t : TableId) (table : Table) (here : At schema.store.tables t.index table) where
  abbrev pub rows : List Row
  rows = rows_in tables t

  pub rows_demanded : AreDemandedRows schema state t table rows
  rows_demanded = are.rows t table here

  -- the cells of a row
  pub cells_demanded : (row : Row) → Contains rows row → HasDemandedCells schema state t table row
  cells_demanded row has = All-contains (HasDemandedCells schema state t table) rows row rows_demanded.cells has

  -- a row stands for its key, which is demanded
  pub row_demanded : (row : Row) → Contains rows row → DemandsRow schema state t (row_key table row)
  row_demanded row has = All-contains (λ (r : Row). DemandsRow schema state t (row_key table r)) rows row rows_demanded.demanded has

  pub rows_told : (key : List Value)
      → (Any (λ row. row_key table row ≡ key) rows → DemandsRow schema state t key) × (DemandsRow schema state t key → Any (λ row. row_key table row ≡ key) rows)
  rows_told key = (
    (λ any. let found = of_any (λ (row : Row). row_key table row ≡ key) rows any in subst (DemandsRow schema state t) found.2 (row_demanded found.0 found.1)),
    rows_demanded.all key,
  )

  pub cells_told : (writings : List Writing) → AreWritings schema state writings → (row : Row) → Contains rows row → (col : ColId) (column : Column)
      → At table.cols col.index column
      → cell_of row col ≡ first_or_null (values_at schema.store writings t (row_key table row) col)
  cells_told writings are_writings row has col column at =
      let key = row_key table row in
      let first = first_or_null (values_at schema.store writings t key col) in
      ⊎_elim
      (λ (null : first ≡ Null). ⊎_elim
      (λ (empty : cell_of row col ≡ Null). empty ∙ sym null)
      (λ (cell : DemandsCell schema state t key col (cell_of row col)). sym (first_demanded schema state writings are_writings are.no_clash t key col (cell_of row col) cell))
      ((cells_demanded row has).only col column at))
      (λ (cell : DemandsCell schema state t key col first). (cells_demanded row has).demanded col first cell)
      (first_is_demanded schema state writings are_writings t key col)

-- a clash has its place
module _ (schema : Schema) (fits : IsWellWritten schema) (has_tables : HasTables schema) (state : State) where
  table_of : (writing : Writing) → Writes schema state writing → (table : Table) × At schema.store.tables writing.table.index table
  table_of writing (inl (fragment, entity, writes, is)) =
      let P : Fragment → Type 0 = λ f. (table : Table) × At schema.store.tables f.table.index table in
      let Q : TableId → Type 0 = λ t. (table : Table) × At schema.store.tables t.index table in
      subst Q (sym (ap (λ (w : Writing). w.table) is)) (All-contains P schema.mapping.fragments fragment has_tables.fragments writes.mapped)
  table_of writing (inr (fragment, assoc, link, writes, is)) =
      let P : LinkFragment → Type 0 = λ f. (table : Table) × At schema.store.tables f.table.index table in
      let Q : TableId → Type 0 = λ t. (table : Table) × At schema.store.tables t.index table in
      subst Q (sym (ap (λ (w : Writing). w.table) is)) (All-contains P schema.mapping.links fragment has_tables.links writes.mapped)

  pub no_clash_from_none : ((place : Place) → ¬ Clashes schema state place) → HasNoClash schema state
  no_clash_from_none none t key col one two first second = ⊎_elim
      (λ (same : one ≡ two). same)
      (λ (different : one ≢ two).
      let found = table_of first.0 first.1.writes in
      let Q : TableId → Type 0 = λ u. At schema.store.tables u.index found.0 in
      let here : At schema.store.tables t.index found.0 = subst Q first.1.to_table found.1 in
      let column = fills_col found.0 first.0 (fits_here schema fits state t found.0 here first.0 first.1.writes first.1.to_table) col one first.2 in
      absurd (none (place_at found.0.name key column.0.name) (record {
        t = t;
        table = found.0;
        col = col;
        column = column.0;
        key = key;
        one = one;
        two = two;
        has_column = record { is_table = here; is_column = column.1 };
        demands_one = first;
        demands_two = second;
        different = different;
        place_is = refl;
      })))
      (value_or_not one two)
