-- Changes of rows: at which row each is, what it needs, and what is left of the tables.
-- Source: INSERT, UPDATE and DELETE of SQL, by primary key.
use Rattle.std.specs.Prelude.{◌≡◌, List, [], ◌∷◌, ◌++◌, map, filter, set, Contains, not, if◌then◌else◌}
use Rattle.round_trip.specs.Words.{Row, StoreModel, TableId, Tables, Value, cells_of, key_columns, rows_in}
use Rattle.schema_laws.specs.state_demand.Selecting.{same_key}
use Rattle.row_changes.specs.declared.change.RowChange.{RowChange}
use Rattle.row_changes.specs.declared.change.RowChange.TheVariants.{Insert, Update, Delete}

-- the table whose row is changed
abbrev pub table_of : RowChange → TableId
table_of (Insert t row) = t
table_of (Update t row) = t
table_of (Delete t key) = t

module _ (store : StoreModel) where
  -- a row's key: its cells in the columns of the table's primary key
  abbrev pub key_in : TableId → Row → List Value
  key_in t row = cells_of row (key_columns store t)

  -- the key of the row that is changed
  abbrev pub key_of_change : RowChange → List Value
  key_of_change (Insert t row) = key_in t row
  key_of_change (Update t row) = key_in t row
  key_of_change (Delete t key) = key

  -- a row of a table with the key; and that none has it
  abbrev pub HasRow : Tables → TableId → List Value → Row → Type 0
  HasRow tables t key row = Contains (rows_in tables t) row × (key_in t row ≡ key)

  abbrev pub HasNoRow : Tables → TableId → List Value → Type 0
  HasNoRow tables t key = (row : Row) → ¬ HasRow tables t key row

  -- the rows of its table after a change
  abbrev pub rows_after : RowChange → List Row → List Row
  rows_after (Insert t row) rows = rows ++ row ∷ []
  rows_after (Update t row) rows = map (λ old. if same_key (key_in t old) (key_in t row) then row else old) rows
  rows_after (Delete t key) rows = filter (λ old. not (same_key (key_in t old) key)) rows

  -- the tables after a change, and after some, one behind the other
  abbrev pub after_one : Tables → RowChange → Tables
  after_one tables change = set tables (table_of change).index (rows_after change (rows_in tables (table_of change)))

  abbrev pub after : Tables → List RowChange → Tables
  after tables [] = tables
  after tables (change ∷ changes) = after (after_one tables change) changes

  -- a change finds what it needs: an insert no row with its key, an update and a delete one
  abbrev pub FindsItsRow : Tables → RowChange → Type 0
  FindsItsRow tables (Insert t row) = HasNoRow tables t (key_in t row)
  FindsItsRow tables (Update t row) = (old : Row) × HasRow tables t (key_in t row) old
  FindsItsRow tables (Delete t key) = (old : Row) × HasRow tables t key old
