-- Mappings that write each row with its key, and only columns of its table; and columns that hold what is written to them.
-- Source: MSL version 3, ScalarProperty, EndProperty and Condition; SSDL version 3, Key. That the primary key is written whole is the
-- profile's choice.
use Rattle.std.specs.Prelude.{◌≡◌, List, ◌++◌, map, All, Contains}
use Rattle.round_trip.specs.Words.{ColId, Value, EntityModel, Prop, Assoc, Table, Column, Pair, Cond, CondOn, Schema, At, InDomain}
use Rattle.edm_types.specs.declared.mapping.CondOn.TheVariants as on
use Rattle.edm_types.specs.declared.mapping.Test.TheVariants.{Equals}

-- the columns of pairs
abbrev pub cols_of : List Pair → List ColId
cols_of pairs = map (λ pair. pair.col) pairs

-- the column is one of the table's
abbrev pub HasCol : Table → ColId → Type 0
HasCol table col = (column : Column) × At table.cols col.index column

-- a condition is on no column, or on one of the table's
abbrev pub IsOnColumn : Table → CondOn → Type 0
IsOnColumn table what = (col : ColId) → what ≡ on.Col col → HasCol table col

-- the written columns hold the whole primary key, and what is written or asked is the table's
pub record FitsTable (table : Table) (cols : List ColId) (conds : List Cond) : Type 0 where
  pub writes_key : All (Contains cols) table.key
  pub has_cols : All (HasCol table) cols
  pub has_conds : All (λ cond. IsOnColumn table cond.on) conds

-- each fragment, of entities or of links, fits its table
pub record IsWellWritten (schema : Schema) : Type 0 where
  pub fragments : All (λ fragment. (table : Table) → At schema.store.tables fragment.table.index table
      → FitsTable table (cols_of fragment.pairs) fragment.conds) schema.mapping.fragments
  pub links : All (λ fragment. (table : Table) → At schema.store.tables fragment.table.index table
      → FitsTable table (cols_of (fragment.first ++ fragment.second)) fragment.conds) schema.mapping.links

-- every fragment's table is one of the store's
pub record HasTables (schema : Schema) : Type 0 where
  pub fragments : All (λ fragment. (table : Table) × At schema.store.tables fragment.table.index table) schema.mapping.fragments
  pub links : All (λ fragment. (table : Table) × At schema.store.tables fragment.table.index table) schema.mapping.links

-- each association that a link fragment maps is one of the model's
abbrev pub HasAssocs : Schema → Type 0
HasAssocs schema = All (λ fragment. (assoc : Assoc) × At schema.model.assocs fragment.assoc.index assoc) schema.mapping.links

-- a pair writes a property of the model, each value of which its column holds
abbrev pub HoldsPair : EntityModel → Table → Pair → Type 0
HoldsPair model table pair = (column : Column) → At table.cols pair.col.index column
    → (declared : Prop) × At model.props pair.prop.index declared × ((value : Value) → InDomain value declared.kind → InDomain value column.kind)

-- a column holds the constant with which a condition compares it
abbrev pub HoldsConstant : Table → Cond → Type 0
HoldsConstant table cond = (col : ColId) (constant : Value) (column : Column) → cond.on ≡ on.Col col → cond.test ≡ Equals constant
    → At table.cols col.index column → InDomain constant column.kind

-- the table's columns hold what is written to them
pub record HoldsCells (model : EntityModel) (table : Table) (pairs : List Pair) (conds : List Cond) : Type 0 where
  pub written : All (HoldsPair model table) pairs
  pub asked : All (HoldsConstant table) conds

-- every column holds what is written to it
pub record HoldsValues (schema : Schema) : Type 0 where
  pub fragments : All (λ fragment. (table : Table) → At schema.store.tables fragment.table.index table
      → HoldsCells schema.model table fragment.pairs fragment.conds) schema.mapping.fragments
  pub links : All (λ fragment. (table : Table) → At schema.store.tables fragment.table.index table
      → HoldsCells schema.model table (fragment.first ++ fragment.second) fragment.conds) schema.mapping.links
