-- The tables that a list of writings makes, and whether it clashes.
-- Source: the update views of Melnik, Adya and Bernstein, SIGMOD 2007; MSL version 3, Condition. In this profile a column that nothing
-- demands holds null.
use Rattle.std.specs.Prelude.{ℕ, suc, List, [], ◌∷◌, ◌++◌, Bool, true, not, ◌==◌, ◌&&◌, ◌||◌, map, filter, flat_map, if◌then◌else◌}
use Rattle.std.specs.List.{list_all, list_any}
use Rattle.round_trip.specs.Words.{TypeId, TableId, ColId, Value, Null, StoreModel, Table, CondOn, Test, Schema, Row, State, Tables, Writing, written_key}
use Rattle.edm_types.specs.declared.mapping.CondOn.TheVariants as on
use Rattle.edm_types.specs.declared.mapping.Test.TheVariants.{IsNull, Equals}
use Rattle.schema_laws.specs.state_demand.Selecting.{same_value, same_key}
use Rattle.schema_laws.specs.state_demand.Writings.{writings_of}

-- the items of a list, each once
abbrev pub distinct : {X : Type 0} → (X → X → Bool) → List X → List X
distinct same [] = []
distinct same (x ∷ xs) = if list_any (same x) xs then distinct same xs else (x ∷ distinct same xs)

-- what is made of each item and its number, from a number on
abbrev pub map_from : {X Y : Type 0} → (ℕ → X → Y) → ℕ → List X → List Y
map_from f n [] = []
map_from f n (x ∷ xs) = f n x ∷ map_from f (suc n) xs

-- the first value, or null
abbrev pub first_or_null : List Value → Value
first_or_null [] = Null
first_or_null (value ∷ values) = value

-- what a condition gives a column: the constant that it compares with, or null
abbrev pub given_by_cond : CondOn → Test → List (ColId × Value)
given_by_cond (on.Col col) (Equals constant) = (col, constant) ∷ []
given_by_cond (on.Col col) (IsNull true) = (col, Null) ∷ []
given_by_cond _ _ = []

-- what a writing gives columns, by its cells and by its conditions
abbrev pub given_cells : Writing → List (ColId × Value)
given_cells writing = writing.cells ++ flat_map (λ cond. given_by_cond cond.on cond.test) writing.conds

-- the values that it gives one column
abbrev pub given_by : ColId → Writing → List Value
given_by col writing = map (λ cell. cell.1) (filter (λ cell. cell.0.index == col.index) (given_cells writing))

-- whether a writing is to the table
abbrev pub is_to_table : TableId → Writing → Bool
is_to_table t writing = writing.table.index == t.index

-- whether a writing is to the row of this key
abbrev pub is_to_row : StoreModel → TableId → List Value → Writing → Bool
is_to_row store t key writing = is_to_table t writing && same_key (written_key store writing) key

module _ (store : StoreModel) (writings : List Writing) where
  -- the values that are given to a cell
  abbrev pub values_at : TableId → List Value → ColId → List Value
  values_at t key col = flat_map (given_by col) (filter (is_to_row store t key) writings)

  -- the row of a key
  abbrev pub made_row : TableId → Table → List Value → Row
  made_row t table key = record { cells = map_from (λ i column. first_or_null (values_at t key (record { index = i }))) 0 table.cols }

  -- the keys that are written to a table, each once
  abbrev pub made_keys : TableId → List (List Value)
  made_keys t = distinct same_key (map (written_key store) (filter (is_to_table t) writings))

  -- the rows of a table
  abbrev pub made_rows : TableId → Table → List Row
  made_rows t table = map (made_row t table) (made_keys t)

  -- the rows of every table
  abbrev pub made_tables : Tables
  made_tables = map_from (λ i table. made_rows (record { index = i }) table) 0 store.tables

-- the tables of a state
abbrev pub tables_of : (TypeId → TypeId → Bool) → Schema → State → Tables
tables_of is_a schema state = made_tables schema.store (writings_of is_a schema state)

-- a cell of a row, with a value that is demanded there
pub record CellDemand : Type 0 where
  pub table : TableId
  pub key : List Value
  pub col : ColId
  pub value : Value

-- what a writing demands of cells
abbrev pub demands_of : StoreModel → Writing → List CellDemand
demands_of store writing = map (λ cell. record { table = writing.table; key = written_key store writing; col = cell.0; value = cell.1 }) (given_cells writing)

-- whether two demands are of different cells, or of one value
abbrev pub do_agree : CellDemand → CellDemand → Bool
do_agree one two = not (one.table.index == two.table.index && (same_key one.key two.key && one.col.index == two.col.index)) || same_value one.value two.value

-- whether no cell is given two values
abbrev pub have_no_clash : StoreModel → List Writing → Bool
have_no_clash store writings = let demands = flat_map (demands_of store) writings in list_all (λ one. list_all (do_agree one) demands) demands
