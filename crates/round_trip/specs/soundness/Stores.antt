-- When a store model is sound. What an SSDL document that breaks no rule means is sound.
-- Source: the rules of SSDL documents, read over the lists: SSDL version 3, EntitySet, EntityType, Key, Property, Association and
-- ReferentialConstraint.
use Rattle.std.specs.Prelude.{◌≡◌, ◌≢◌, ◌<◌, ◌≤◌, [], map, length, option_map, All, false}
use Rattle.round_trip.specs.Words.{TableId, ColId, StoreModel, Table, Column, ForeignKey, At, key_columns}
use Rattle.emc_base.specs.Lists.{AreApart, HoldsEachOnce}
use Rattle.round_trip.specs.soundness.Kinds.{IsSoundKind, IsEnum, IsKeyKind, without_bound}
use Rattle.round_trip.specs.soundness.Lookups.{columns_of, column_kind}

-- the id is that of a table
abbrev pub IsTableId : StoreModel → TableId → Type 0
IsTableId store table = table.index < length store.tables

-- that of a column of this table
abbrev pub IsColId : StoreModel → TableId → ColId → Type 0
IsColId store table col = col.index < length (columns_of store table)

-- the tables and columns of a foreign key
pub record HasForeignIds (store : StoreModel) (key : ForeignKey) : Type 0 where
  pub from : IsTableId store key.from
  pub to : IsTableId store key.to
  pub from_cols : All (IsColId store key.from) key.from_cols
  pub to_cols : All (IsColId store key.to) key.to_cols

-- every id is in range
pub record HasStoreIds (store : StoreModel) : Type 0 where
  pub keys : All (λ table. All (λ col. col.index < length table.cols) table.key) store.tables
  pub foreign : All (HasForeignIds store) store.keys

-- V6: the names of tables, of a table's columns, and of foreign keys, each among its kind
pub record HasDistinctStoreNames (store : StoreModel) : Type 0 where
  pub tables : AreApart (map (λ table. table.name) store.tables)
  pub columns : All (λ table. AreApart (map (λ column. column.name) table.cols)) store.tables
  pub keys : AreApart (map (λ key. key.name) store.keys)

-- V13: the bound. V21: a column has one of the seven simple kinds.
pub record IsSoundColumn (column : Column) : Type 0 where
  pub kind : IsSoundKind column.kind
  pub simple : ¬ IsEnum column.kind

-- V22: a column of a primary key is not nullable. V23: it holds whole numbers or texts.
pub record IsKeyColumn (table : Table) (col : ColId) : Type 0 where
  pub column : Column
  pub is_column : At table.cols col.index column
  pub needed : column.nullable ≡ false
  pub kind : IsKeyKind column.kind

-- V22, V23: one to four columns, each once
pub record HasPrimaryKey (table : Table) : Type 0 where
  pub some : table.key ≢ []
  pub few : length table.key ≤ 4
  pub once : AreApart table.key
  pub columns : All (IsKeyColumn table) table.key

-- V13, V21 to V23
pub record IsSoundTable (table : Table) : Type 0 where
  pub columns : All IsSoundColumn table.cols
  pub key : HasPrimaryKey table

-- V24: a foreign key points to a whole primary key, from as many columns, none twice, that match item by item in kind, bounds aside
pub record HasMatchedColumns (store : StoreModel) (key : ForeignKey) : Type 0 where
  pub whole : HoldsEachOnce (key_columns store key.to) key.to_cols
  pub once : AreApart key.from_cols
  pub kinds : map (λ col. option_map without_bound (column_kind store key.from col)) key.from_cols
      ≡ map (λ col. option_map without_bound (column_kind store key.to col)) key.to_cols

-- V25: it doesn't match each column with itself
abbrev pub PointsElsewhere : ForeignKey → Type 0
PointsElsewhere key = ¬ ((key.from ≡ key.to) × (key.from_cols ≡ key.to_cols))

-- V24, V25
pub record IsSoundForeignKey (store : StoreModel) (key : ForeignKey) : Type 0 where
  pub columns : HasMatchedColumns store key
  pub elsewhere : PointsElsewhere key

-- a store is sound
pub record IsSoundStore (store : StoreModel) : Type 0 where
  -- every id is in range
  pub ids : HasStoreIds store
  -- V6
  pub names : HasDistinctStoreNames store
  -- V13, V21 to V23
  pub tables : All IsSoundTable store.tables
  -- V24, V25
  pub keys : All (IsSoundForeignKey store) store.keys
