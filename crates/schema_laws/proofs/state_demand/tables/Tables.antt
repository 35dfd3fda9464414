-- The tables that the writings of a state make are the state's.
use Rattle.std.proofs.Common.{◌≡◌, ◌≢◌, inl, inr, ⊎_elim, ℕ, ◌<◌, true, arith, filter, List, [], map, length, unwrap_or, All, Contains, refl, sym, ap, subst, ◌∙◌, get_or}
use Rattle.std.proofs.lemmas.List.Elements.{All-contains, Contains-get_or}
use Rattle.emc_base.proofs.Lists.{all_from_members}
use Rattle.emc_base.proofs.Mapped.{contains_map}
use Rattle.emc_base.proofs.Numbered.{all_pairs_map, map_contains}
use Rattle.round_trip.specs.Words.{TableId, ColId, Value, Null, Table, Column, Cond, Schema, Row, State, At, rows_in, cell_of, row_key, AreTables, Writing, Writes, written_to, written_key, Fills, WritesRow, DemandsRow, DemandsCell, HasNoClash, HasDemandedCells, AreDemandedRows, TablesAre}
use Rattle.edm_types.specs.declared.mapping.CondOn.TheVariants as on
use Rattle.edm_types.specs.declared.mapping.Test.TheVariants.{IsNull, Equals}
use Rattle.schema_laws.specs.state_demand.Selecting.{same_key}
use Rattle.schema_laws.specs.state_demand.Writings.{AreWritings}
use Rattle.schema_laws.specs.state_demand.MadeTables.{first_or_null, made_keys, made_row, made_rows, made_tables, values_at, is_to_table}
use Rattle.schema_laws.specs.state_demand.WellWritten.{FitsTable, HasCol, IsOnColumn, IsWellWritten}
use Rattle.schema_laws.proofs.state_demand.writings.Demanded.{demanded_row, first_demanded, first_is_demanded, row_demanded}
use Rattle.schema_laws.proofs.state_demand.lists.Distinct.{distinct_apart}
use Rattle.schema_laws.proofs.state_demand.writings.Fitting.{cell_cols, key_written, writing_fits, written_stands}
use Rattle.schema_laws.proofs.state_demand.lists.Lists.{any_of}
use Rattle.schema_laws.proofs.state_demand.lists.Places.{length-map_from, made_at, map_agree}
use Rattle.schema_laws.proofs.state_demand.writings.Selecting.{Decides-key}

-- what a writing fills is a column of its table
pub fills_col : (table : Table) (writing : Writing) → FitsTable table (cell_cols writing.cells) writing.conds → (col : ColId) (value : Value) → Fills writing col value
    → HasCol table col
fills_col table writing fits col value fills = ⊎_elim
    (λ (cell : Contains {X = ColId × Value} writing.cells (col, value)).
    All-contains (HasCol table) (cell_cols writing.cells) col fits.has_cols (contains_map (λ (one : ColId × Value). one.0) writing.cells (col, value) cell))
    (λ conds. ⊎_elim
    (λ (has : Contains writing.conds (record { on = on.Col col; test = Equals value })). asked (record { on = on.Col col; test = Equals value }) has refl)
    (λ (has : Contains writing.conds (record { on = on.Col col; test = IsNull true }) × (value ≡ Null)). asked (record { on = on.Col col; test = IsNull true }) has.0 refl)
    conds)
    fills
  where
    asked : (cond : Cond) → Contains writing.conds cond → cond.on ≡ on.Col col → HasCol table col
    asked cond has is = All-contains (λ (one : Cond). IsOnColumn table one.on) writing.conds cond fits.has_conds has col is

module _ (schema : Schema) (fits : IsWellWritten schema) (state : State) where
  -- a writing to a table fits it
  pub fits_here : (t : TableId) (table : Table) → At schema.store.tables t.index table → (writing : Writing) → Writes schema state writing → writing.table ≡ t
      → FitsTable table (cell_cols writing.cells) writing.conds
  fits_here t table here writing writes to =
      let P : TableId → Type 0 = λ u. At schema.store.tables u.index table in
      writing_fits schema fits state writing writes table (subst P (sym to) here)

  -- a writing demands the key that it writes, column by column
  pub key_demanded : (t : TableId) (table : Table) → At schema.store.tables t.index table → (key : List Value) (writing : Writing) → WritesRow schema state t key writing
      → (col : ColId) → Contains table.key col → DemandsCell schema state t key col (written_to writing.cells col)
  key_demanded t table here key writing to_row col has =
      let fitting = fits_here t table here writing to_row.writes to_row.to_table in
      (writing, to_row, inl (written_stands writing.cells col (All-contains (Contains (cell_cols writing.cells)) table.key col fitting.writes_key has)))

  -- a column of the table's key is one of the table's, where anything is written there
  pub key_col : (t : TableId) (table : Table) → At schema.store.tables t.index table → (key : List Value) (writing : Writing) → WritesRow schema state t key writing
      → (col : ColId) → Contains table.key col → HasCol table col
  key_col t table here key writing to_row col has =
      let fitting = fits_here t table here writing to_row.writes to_row.to_table in
      All-contains (HasCol table) (cell_cols writing.cells) col fitting.has_cols (All-contains (Contains (cell_cols writing.cells)) table.key col fitting.writes_key has)

  module _ (writings : List Writing) (are : AreWritings schema state writings) (no_clash : HasNoClash schema state) where
    -- a cell of a made row
    cell_made : (t : TableId) (table : Table) (key : List Value) (col : ColId) (column : Column) → At table.cols col.index column
        → cell_of (made_row schema.store writings t table key) col ≡ first_or_null (values_at schema.store writings t key col)
    cell_made t table key col column here =
        ap (λ cell. unwrap_or cell Null)
        (made_at (λ i (one : Column). first_or_null (values_at schema.store writings t key (record { index = i }))) col.index table.cols column here)

    module _ (t : TableId) (table : Table) (here : At schema.store.tables t.index table) where
      holds_demand : (key : List Value) (col : ColId) (value : Value) → DemandsCell schema state t key col value → cell_of (made_row schema.store writings t table key) col ≡ value
      holds_demand key col value demand =
          let found = fills_col table demand.0 (fits_here t table here demand.0 demand.1.writes demand.1.to_table) col value demand.2 in
          cell_made t table key col found.0 found.1 ∙ first_demanded schema state writings are no_clash t key col value demand

      key_kept : (key : List Value) → DemandsRow schema state t key → row_key table (made_row schema.store writings t table key) ≡ key
      key_kept key (writing, to_row) =
          map_agree (cell_of (made_row schema.store writings t table key)) (written_to writing.cells) table.key
          (λ col has. holds_demand key col (written_to writing.cells col) (key_demanded t table here key writing to_row col has))
          ∙ sym (key_written schema t table here writing to_row.to_table) ∙ to_row.to_key

      cells_right : (key : List Value) → DemandsRow schema state t key → HasDemandedCells schema state t table (made_row schema.store writings t table key)
      cells_right key demand =
          let kept = key_kept key demand in
          let row : Row = made_row schema.store writings t table key in
          record {
            demanded = λ col value cell. let P : List Value → Type 0 = λ k. DemandsCell schema state t k col value in holds_demand key col value (subst P kept cell);
            only = λ col column at. let is = cell_made t table key col column at in
                ⊎_elim
                (λ null. inl (is ∙ null))
                (λ (cell : DemandsCell schema state t key col (first_or_null (values_at schema.store writings t key col))).
                let P : List Value → Type 0 = λ k. DemandsCell schema state t k col (cell_of row col) in
                let Q : Value → Type 0 = λ v. DemandsCell schema state t key col v in
                inr (subst P (sym kept) (subst Q (sym is) cell)))
                (first_is_demanded schema state writings are t key col);
          }

      abbrev keys : List (List Value)
      keys = made_keys schema.store writings t

      rows_right : AreDemandedRows schema state t table (made_rows schema.store writings t table)
      rows_right =
          let rows : List Row = made_rows schema.store writings t table in
          let make : List Value → Row = made_row schema.store writings t table in
          record {
            demanded = all_from_members (λ (row : Row). DemandsRow schema state t (row_key table row)) rows (λ row has.
                let image = map_contains make keys row has in
                let demand = demanded_row schema state writings are t image.0 image.1 in
                let P : Row → Type 0 = λ r. DemandsRow schema state t (row_key table r) in
                let Q : List Value → Type 0 = λ k. DemandsRow schema state t k in
                subst P image.2 (subst Q (sym (key_kept image.0 demand)) demand));
            all = λ key demand. any_of (λ (row : Row). row_key table row ≡ key) rows (make key) (contains_map make keys key (row_demanded schema state writings are t key demand))
                (key_kept key demand);
            once = all_pairs_map (λ one two. row_key table one ≢ row_key table two) make keys
                (λ i j d below within same.
                let within_i : i < length keys = omega (arith, below, within) in
                let key_at : (k : ℕ) → k < length keys → row_key table (make (get_or keys k d)) ≡ get_or keys k d =
                λ k inside. key_kept (get_or keys k d) (demanded_row schema state writings are t (get_or keys k d) (Contains-get_or keys k d inside)) in
                distinct_apart same_key Decides-key (map (written_key schema.store) (filter (is_to_table t) writings)) i j d below within
                (sym (key_at i within_i) ∙ same ∙ key_at j within));
            cells = all_from_members (HasDemandedCells schema state t table) rows (λ row has.
                let image = map_contains make keys row has in
                subst (HasDemandedCells schema state t table) image.2 (cells_right image.0 (demanded_row schema state writings are t image.0 image.1)));
          }

      -- the rows of a table are those made for it
      made_here : rows_in (made_tables schema.store writings) t ≡ made_rows schema.store writings t table
      made_here = ap (λ rows. unwrap_or rows [])
          (made_at (λ i (entry : Table). made_rows schema.store writings (record { index = i }) entry) t.index schema.store.tables table here)

      full_rows : All (λ row. length row.cells ≡ length table.cols) (made_rows schema.store writings t table)
      full_rows = all_from_members (λ (row : Row). length row.cells ≡ length table.cols) (made_rows schema.store writings t table) (λ row has.
          let image = map_contains (made_row schema.store writings t table) keys row has in
          let P : Row → Type 0 = λ r. length r.cells ≡ length table.cols in
          subst P image.2 (length-map_from (λ i (column : Column). first_or_null (values_at schema.store writings t image.0 (record { index = i }))) 0 table.cols))

    shape : AreTables schema.store (made_tables schema.store writings)
    shape = record {
      each = length-map_from (λ i (entry : Table). made_rows schema.store writings (record { index = i }) entry) 0 schema.store.tables;
      rows = λ t table here. let P : List Row → Type 0 =
          λ rows. All (λ (row : Row). length row.cells ≡ length table.cols) rows in subst P (sym (made_here t table here)) (full_rows t table here);
    }

    pub tables_are : TablesAre schema state (made_tables schema.store writings)
    tables_are = record {
      shape = shape;
      no_clash = no_clash;
      rows = λ t table here. subst (AreDemandedRows schema state t table) (sym (made_here t table here)) (rows_right t table here);
    }
