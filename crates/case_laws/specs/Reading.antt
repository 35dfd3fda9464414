-- Tables to be read: those of a state, whose free columns hold anything, and those with one row for each key.
-- Source: the query views of Melnik, Adya and Bernstein, SIGMOD 2007; what a free column holds is this project's choice.
use Rattle.std.specs.Prelude.{◌≢◌, ◌↔◌, AllPairs, Bool, IsTrue}
use Rattle.round_trip.specs.Words.{TableId, ColId, Table, StoreModel, Schema, State, Tables, At, AreErased, IsFree, TablesAre, row_key, rows_in}

-- the answer tells of each column whether it is free
pub record DecidesFree (schema : Schema) (is_free : TableId → ColId → Bool) : Type 0 where
  pub tells : (t : TableId) (col : ColId) → IsTrue (is_free t col) ↔ IsFree schema t col

-- the tables are the state's, but for what their free cells hold
pub record HasStateTables (schema : Schema) (state : State) (tables : Tables) : Type 0 where
  pub erased : Tables
  pub are_erased : AreErased schema.store (IsFree schema) tables erased
  pub are : TablesAre schema state erased

-- B3: no two rows of one table have one primary key
pub record HaveOneRowPerKey (store : StoreModel) (tables : Tables) : Type 0 where
  pub keys : (t : TableId) (table : Table) → At store.tables t.index table → AllPairs (λ row other. row_key table row ≢ row_key table other) (rows_in tables t)
