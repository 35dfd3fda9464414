-- What the tree of tables tells, by names.
-- Source: this project's table documents.
use Rattle.std.specs.Prelude.{◌≡◌, ℕ, List, map, Some, IsSome, Contains}
use Rattle.std.specs.List.{AllZip}
use Rattle.serde_json.specs.Data.{Data}
use Rattle.serde_json.specs.Find.{get}
use Rattle.json_form.specs.Trees.{value_tree, array_of}
use Rattle.emc_base.specs.Lists.{AreApart}
use Rattle.round_trip.specs.Words.{TableId, ColId, StoreModel, Table, Column, Row, At, Tables, rows_in, cell_of}
use Rattle.table_files.specs.InOrder.{AreInKeyOrder}
use Rattle.table_files.specs.TablesTree.{tables_tree}

-- the names of a store's tables
abbrev pub table_names : StoreModel → List (List ℕ)
table_names store = map (λ table. table.name) store.tables

-- the names of a table's columns
abbrev pub column_names : Table → List (List ℕ)
column_names table = map (λ column. column.name) table.cols

-- no two tables have one name, and no two columns of a table
pub record HasApartNames (store : StoreModel) : Type 0 where
  pub tables : AreApart (table_names store)
  pub columns : (t : TableId) (table : Table) → At store.tables t.index table → AreApart (column_names table)

-- the tree tells a row: under each column's name the cell, and nothing else
pub record TellsRow (table : Table) (row : Row) (tree : Data) : Type 0 where
  pub cells : (col : ColId) (column : Column) → At table.cols col.index column → get column.name tree ≡ Some (value_tree (cell_of row col))
  pub only : (name : List ℕ) → IsSome (get name tree) → Contains (column_names table) name

-- the tree tells tables: under each table's name the array of its rows in the order of their list, and nothing else
pub record TellsTables (store : StoreModel) (tables : Tables) (tree : Data) : Type 0 where
  pub rows : (t : TableId) (table : Table) → At store.tables t.index table
      → (trees : List Data) × (get table.name tree ≡ Some (array_of trees)) × AllZip (TellsRow table) (rows_in tables t) trees
  pub only : (name : List ℕ) → IsSome (get name tree) → Contains (table_names store) name

-- the tree of the tables, with the rows of each in the order of their primary keys
pub record IsTreeInKeyOrder (store : StoreModel) (tables : Tables) (tree : Data) : Type 0 where
  pub sorted : Tables
  pub order : AreInKeyOrder store tables sorted
  pub is : tree ≡ tables_tree store sorted
  pub tells : HasApartNames store → TellsTables store sorted tree
