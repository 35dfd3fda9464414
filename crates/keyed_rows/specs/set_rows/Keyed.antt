-- Rows of the tables that a set owns, each with the key of the set at which it stands.
-- Source: the query views of Melnik, Adya and Bernstein, SIGMOD 2007.
use Rattle.std.specs.Prelude.{◌≡◌, ◌≢◌, ◌<◌, ◌++◌, ℕ, List, map, length, All, AllPairs, Contains}
use Rattle.std.specs.Borrow.{Bor}
use Rattle.std.specs.Global.{Vec}
use Rattle.round_trip.specs.Words.{SetId, TableId, ColId, Value, Schema, Row, Tables, cells_of}
use Rattle.round_trip.specs.soundness.Lookups.{set_key}
use Rattle.case_laws.specs.region_cases.Meets.{StandsAtKey}
use Rattle.keyed_rows.specs.row_groups.Shown.{shown_cells}
use Rattle.case_laws.specs.candidates.Rows.{shown_row}
use Rattle.case_laws.specs.declared.candidates.placed.PlacedRow.{PlacedRow}

-- a key, and a row with its table
abbrev pub KeyedRow : Type 0
KeyedRow = List Value × (TableId × Row)

-- a lent row with its lent key
abbrev pub shown_keyed_row : Vec (Bor Value) × PlacedRow → KeyedRow
shown_keyed_row keyed = (shown_cells keyed.0, shown_row keyed.1)

-- and rows with their keys
abbrev pub shown_keyed_rows : List (Vec (Bor Value) × PlacedRow) → List KeyedRow
shown_keyed_rows keyed = map shown_keyed_row keyed

-- a row of a table with its cells in some columns
abbrev pub keyed_row : TableId → List ColId → Row → KeyedRow
keyed_row t cols row = (cells_of row cols, (t, row))

module _ (schema : Schema) (tables : Tables) (s : SetId) where
  -- the row stands at its key, which has as many parts as the set's
  pub record IsKeyed (keyed : KeyedRow) : Type 0 where
    pub whole : length keyed.0 ≡ length (set_key schema.model s)
    pub stands : StandsAtKey schema tables s keyed.0 keyed.1.0 keyed.1.1

  -- just the rows of one table that stand at keys of the set, no two at one
  pub record AreKeyedRowsOf (t : TableId) (rows : List KeyedRow) : Type 0 where
    pub keyed : All IsKeyed rows
    pub table : All (λ one. one.1.0 ≡ t) rows
    pub all : (key : List Value) (held : Row) → IsKeyed (key, (t, held)) → Contains rows (key, (t, held))
    pub apart : AllPairs (λ one other. one.0 ≢ other.0) rows

  -- the rows of one table stand behind those that were there
  pub record AddsRowsOf (t : TableId) (before after : List KeyedRow) : Type 0 where
    pub added : List KeyedRow
    pub after_is : after ≡ before ++ added
    pub are : AreKeyedRowsOf t added

  -- just the rows of the first tables, as many as these, that stand at keys of the set; those of one key in the order of tables, no two in one
  pub record AreKeyedRows (n : ℕ) (rows : List KeyedRow) : Type 0 where
    pub keyed : All IsKeyed rows
    pub below : All (λ one. one.1.0.index < n) rows
    pub all : (key : List Value) (t : TableId) (held : Row) → t.index < n → IsKeyed (key, (t, held)) → Contains rows (key, (t, held))
    pub rising : AllPairs (λ one later. one.0 ≡ later.0 → one.1.0.index < later.1.0.index) rows
