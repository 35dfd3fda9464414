-- Rows of two tables that stand side by side and don't differ.
-- Source: this project's.
use Rattle.std.specs.Prelude.{◌≡◌, List, Bool}
use Rattle.std.specs.List.{AllZip}
use Rattle.round_trip.specs.Words.{ColId, Table, Row, cells_of}
use Rattle.keyed_rows.specs.row_differences.Differences.{HasDifferentCell}

-- the rows have one key, and the same values in each column that isn't free
pub record IsAlike (is_free : ColId → Bool) (table : Table) (held demanded : Row) : Type 0 where
  pub key : cells_of held table.key ≡ cells_of demanded table.key
  pub cells : ¬ HasDifferentCell is_free table held demanded

-- there are as many rows on both sides, and those at one place are alike
abbrev pub AreAlike : (ColId → Bool) → Table → List Row → List Row → Type 0
AreAlike is_free table held demanded = AllZip (IsAlike is_free table) held demanded
