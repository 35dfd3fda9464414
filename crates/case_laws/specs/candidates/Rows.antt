-- The rows at a key of an entity set.
-- Source: the query views of Melnik, Adya and Bernstein, SIGMOD 2007.
use Rattle.std.specs.Prelude.{◌≡◌, ◌<◌, List, length, map, All, AllPairs, Contains}
use Rattle.round_trip.specs.Words.{SetId, TableId, Value, Schema, Row, Tables}
use Rattle.round_trip.specs.soundness.Lookups.{set_key}
use Rattle.case_laws.specs.region_cases.Meets.{StandsAtKey}
use Rattle.case_laws.specs.declared.candidates.placed.PlacedRow.{PlacedRow}

-- a lent row with its table
abbrev pub shown_row : PlacedRow → TableId × Row
shown_row placed = (placed.table, placed.row.now)

abbrev pub shown_rows : List PlacedRow → List (TableId × Row)
shown_rows rows = map shown_row rows

module _ (schema : Schema) (tables : Tables) (s : SetId) (key : List Value) where
  -- a row stands at the key, in a table that the set owns; the key has as many parts as the set's
  pub record HasRows : Type 0 where
    pub whole : length key ≡ length (set_key schema.model s)
    pub table : TableId
    pub held : Row
    pub stands : StandsAtKey schema tables s key table held

  -- just these rows stand at the key, each in its table, in the order of tables, and no two in one
  pub record AreRowsAt (rows : List (TableId × Row)) : Type 0 where
    pub whole : length key ≡ length (set_key schema.model s)
    pub stand : All (λ placed. StandsAtKey schema tables s key placed.0 placed.1) rows
    pub all : (t : TableId) (held : Row) → StandsAtKey schema tables s key t held → Contains rows (t, held)
    pub rising : AllPairs (λ one later. one.0.index < later.0.index) rows
