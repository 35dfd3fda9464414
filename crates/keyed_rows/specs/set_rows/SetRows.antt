-- The rows of an entity set by the keys of its entities.
-- Source: the query views of Melnik, Adya and Bernstein, SIGMOD 2007; the order of keys is that of this project's documents.
use Rattle.std.specs.Prelude.{◌↔◌, List, map, All, AllPairs, Contains}
use Rattle.round_trip.specs.Words.{SetId, Value, Schema, Tables}
use Rattle.case_laws.specs.candidates.ViewedLinks.{IsBefore}
use Rattle.case_laws.specs.candidates.Rows.{AreRowsAt, HasRows, shown_rows}
use Rattle.case_laws.specs.declared.candidates.placed.PlacedRow.{PlacedRow}

-- keys with rows: just the keys of the set at which rows stand, in their order, each once and with all its rows
pub record AreSetRows (schema : Schema) (tables : Tables) (s : SetId) (groups : List (List Value × List PlacedRow)) : Type 0 where
  pub keys : (key : List Value) → Contains (map (λ group. group.0) groups) key ↔ HasRows schema tables s key
  pub rising : AllPairs (λ one later. IsBefore one.0 later.0) groups
  pub rows : All (λ group. AreRowsAt schema tables s group.0 (shown_rows group.1)) groups
