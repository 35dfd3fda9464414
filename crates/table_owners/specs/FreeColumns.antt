-- Which columns are free.
-- Source: this project's; the mapping documents say nothing of such columns.
use Rattle.std.specs.Prelude.{◌≡◌, ◌↔◌, List, length, Bool, IsTrue}
use Rattle.round_trip.specs.Words.{TableId, ColId, Schema, Table, At, IsFree}

-- what is told of a table: whether each of its columns is free
pub record TellsFree (schema : Schema) (t : TableId) (table : Table) (free : List Bool) : Type 0 where
  pub size : length free ≡ length table.cols
  pub each : (col : ColId) (is_free : Bool) → At free col.index is_free → IsTrue is_free ↔ IsFree schema t col

-- it is told of each table
pub record TellFree (schema : Schema) (free : List (List Bool)) : Type 0 where
  pub size : length free ≡ length schema.store.tables
  pub each : (t : TableId) (table : Table) (columns : List Bool) → At schema.store.tables t.index table → At free t.index columns → TellsFree schema t table columns
