-- The tables of a state.
-- Source: the update views of Melnik, Adya and Bernstein, SIGMOD 2007; in this profile a column that nothing demands holds null.
use Rattle.std.specs.Prelude.{◌≡◌, ◌≢◌, ◌⊎◌, List, All, Any, AllPairs}
use Rattle.round_trip.specs.Types.{TableId, ColId, Value, Null, Table, Column, Schema, Row, At, State, Tables, rows_in, cell_of, row_key, AreTables}
use Rattle.round_trip.specs.Demand.{DemandsRow, DemandsCell}

-- no cell has two different demanded values
abbrev pub HasNoClash : Schema → State → Type 0
HasNoClash schema state = (t : TableId) (key : List Value) (col : ColId) (one two : Value)
    → DemandsCell schema state t key col one → DemandsCell schema state t key col two → one ≡ two

-- each cell of the row holds its demanded value, or null where none is demanded
pub record HasDemandedCells (schema : Schema) (state : State) (t : TableId) (table : Table) (row : Row) : Type 0 where
  pub demanded : (col : ColId) (value : Value) → DemandsCell schema state t (row_key table row) col value → cell_of row col ≡ value
  pub only : (col : ColId) (column : Column) → At table.cols col.index column
      → (cell_of row col ≡ Null) ⊎ DemandsCell schema state t (row_key table row) col (cell_of row col)

-- the rows of one table are the demanded ones, each once
pub record AreDemandedRows (schema : Schema) (state : State) (t : TableId) (table : Table) (rows : List Row) : Type 0 where
  pub demanded : All (λ row. DemandsRow schema state t (row_key table row)) rows
  pub all : (key : List Value) → DemandsRow schema state t key → Any (λ row. row_key table row ≡ key) rows
  pub once : AllPairs (λ row other. row_key table row ≢ row_key table other) rows
  pub cells : All (HasDemandedCells schema state t table) rows

-- Tables(state) is defined, and these are they, up to the order of rows.
pub record TablesAre (schema : Schema) (state : State) (tables : Tables) : Type 0 where
  pub shape : AreTables schema.store tables
  pub no_clash : HasNoClash schema state
  pub rows : (t : TableId) (table : Table) → At schema.store.tables t.index table → AreDemandedRows schema state t table (rows_in tables t)
