-- The row of a table at a key of a set.
-- Source: the query views of Melnik, Adya and Bernstein, SIGMOD 2007.
use Rattle.std.specs.Prelude.{◌≡◌, ◌↔◌, ◌<◌, ℕ, List, [], ◌∷◌, Option, Some, None, All, AllPairs, Contains}
use Rattle.round_trip.specs.Words.{SetId, TableId, Value, Schema, Row, Tables}
use Rattle.case_laws.specs.region_cases.Meets.{StandsAtKey}

-- the row with its table, if there is one
abbrev pub in_table : TableId → Option Row → List (TableId × Row)
in_table t None = []
in_table t (Some row) = (t, row) ∷ []

module _ (schema : Schema) (tables : Tables) (s : SetId) (key : List Value) where
  -- the row of the table that stands at the key, the only one; or that none does
  abbrev pub IsRowAt : TableId → Option Row → Type 0
  IsRowAt t found = (held : Row) → StandsAtKey schema tables s key t held ↔ (found ≡ Some held)

  -- just the rows of the first tables, as many as these, that stand at the key, in the order of tables, no two in one
  pub record AreRowsBelow (n : ℕ) (rows : List (TableId × Row)) : Type 0 where
    pub stand : All (λ placed. StandsAtKey schema tables s key placed.0 placed.1) rows
    pub below : All (λ placed. placed.0.index < n) rows
    pub all : (t : TableId) (held : Row) → t.index < n → StandsAtKey schema tables s key t held → Contains rows (t, held)
    pub rising : AllPairs (λ one later. one.0.index < later.0.index) rows
