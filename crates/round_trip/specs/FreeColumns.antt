-- Free columns: those of a table that the mapping writes without naming the column. An update keeps what they hold.
-- Source: this project's; the mapping documents say nothing of such columns.
use Rattle.std.specs.Prelude.{◌≡◌, ◌≢◌, ◌⊎◌, List, ◌++◌, All, Any}
use Rattle.std.specs.List.{AllZip}
use Rattle.round_trip.specs.Types.{TableId, ColId, Null, StoreModel, Table, Column, Mapping, Pair, Cond, Schema, Row, At, State, Tables, rows_in, cell_of, row_key, AreTables}
use Rattle.round_trip.specs.TablesAre.{TablesAre}
use Rattle.edm_types.specs.declared.mapping.CondOn.TheVariants as on

-- a fragment writes the table, of entities or of links
abbrev pub IsWritten : Mapping → TableId → Type 0
IsWritten mapping t = Any (λ fragment. fragment.table ≡ t) mapping.fragments ⊎ Any (λ fragment. fragment.table ≡ t) mapping.links

-- a pair or a condition is on the column
abbrev pub IsNamedBy : List Pair → List Cond → ColId → Type 0
IsNamedBy pairs conds col = Any (λ pair. pair.col ≡ col) pairs ⊎ Any (λ cond. cond.on ≡ on.Col col) conds

-- a column of a written table, which no pair and no condition of any fragment of the table names
pub record IsFree (schema : Schema) (t : TableId) (col : ColId) : Type 0 where
  pub stands : (table : Table) × (column : Column) × At schema.store.tables t.index table × At table.cols col.index column
  pub written : IsWritten schema.mapping t
  pub unnamed : All (λ fragment. fragment.table ≡ t → ¬ IsNamedBy fragment.pairs fragment.conds col) schema.mapping.fragments
  pub unlinked : All (λ fragment. fragment.table ≡ t → ¬ IsNamedBy (fragment.first ++ fragment.second) fragment.conds col) schema.mapping.links

-- the row, with null in every free cell
pub record IsErasedRow (Free : ColId → Type 0) (row erased : Row) : Type 0 where
  pub free : (col : ColId) → Free col → cell_of erased col ≡ Null
  pub rest : (col : ColId) → ¬ Free col → cell_of erased col ≡ cell_of row col

-- Erase(tables): the same rows, with null in every free cell
pub record AreErased (store : StoreModel) (Free : TableId → ColId → Type 0) (tables erased : Tables) : Type 0 where
  pub shape : AreTables store erased
  pub rows : (t : TableId) → AllZip (IsErasedRow (Free t)) (rows_in tables t) (rows_in erased t)

-- the new row, in whose free cells stands what the old row of its key holds, where there is one
pub record IsKeptRow (Free : ColId → Type 0) (table : Table) (old : List Row) (row kept : Row) : Type 0 where
  pub stays : All (λ before. row_key table before ≡ row_key table row → (col : ColId) → Free col → cell_of kept col ≡ cell_of before col) old
  pub new : All (λ before. row_key table before ≢ row_key table row) old → (col : ColId) → Free col → cell_of kept col ≡ cell_of row col
  pub rest : (col : ColId) → ¬ Free col → cell_of kept col ≡ cell_of row col

-- the new tables, in whose free cells stands what the old tables hold
pub record KeepsFree (store : StoreModel) (Free : TableId → ColId → Type 0) (old tables kept : Tables) : Type 0 where
  pub shape : AreTables store kept
  pub rows : (t : TableId) (table : Table) → At store.tables t.index table
      → AllZip (IsKeptRow (Free t) table (rows_in old t)) (rows_in tables t) (rows_in kept t)

-- Kept(old, state): the state's tables, in whose free cells stands what the old tables hold
pub record AreKept (schema : Schema) (old : Tables) (state : State) (kept : Tables) : Type 0 where
  pub tables : Tables
  pub are : TablesAre schema state tables
  pub keeps : KeepsFree schema.store (IsFree schema) old tables kept
