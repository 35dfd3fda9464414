-- What a pattern lists in a column of a table is the cell of the table's row.
use Rattle.std.proofs.Common.{◌≡◌, ◌==◌, List, [], Contains, find, None, Option, Some, Bool, refl, ap}
use Rattle.std.specs.Option.{option_map_or}
use Rattle.round_trip.specs.Words.{ColId, TableId}
use Rattle.regions.specs.Basis.{Basis}
use Rattle.regions.specs.Patterns.{pattern_of}
use Rattle.regions.specs.Shown.{cell_in}
use Rattle.regions.specs.declared.pattern.Focus.{Focus}
use Rattle.regions.specs.declared.pattern.PatternRow.{PatternRow}
use Rattle.regions.specs.declared.pattern.Symbol.{Symbol}
use Rattle.regions.proofs.region_laws.writings.Cells.{Decides-table}
use Rattle.regions.proofs.region_laws.pattern.Choices.{found_passes}
use Rattle.region_states.specs.conflicts.Facts.{listed_in}
use Rattle.conflict_laws.proofs.clash.Listed.{found_row}

module _ (basis : Basis) (of : Focus) where
  abbrev rows : List PatternRow
  rows = (pattern_of basis of).rows

  abbrev is_of : TableId → PatternRow → Bool
  is_of t row = row.table.index == t.index

  -- each row is the first of its table
  pub listed_row : (row : PatternRow) → Contains rows row → (col : ColId) → listed_in (pattern_of basis of) row.table col ≡ cell_in row col
  listed_row row has col = ap (λ (found : Option PatternRow). option_map_or (λ one. cell_in one col) found []) (found_row basis of row.table row has refl)

  -- what is listed is nothing, or the cell of a row of the table
  pub listed_by : (t : TableId) (col : ColId) (P : List Symbol → Type 0) → P [] → ((row : PatternRow) → Contains rows row → row.table ≡ t → P (cell_in row col))
      → P (listed_in (pattern_of basis of) t col)
  listed_by t col P nothing by_row = by (find (is_of t) rows) refl
    where
      by : (found : Option PatternRow) → find (is_of t) rows ≡ found → P (option_map_or (λ row. cell_in row col) found [])
      by None is = nothing
      by (Some row) is = let there = found_passes (is_of t) rows row is in by_row row there.0 ((Decides-table row.table t).0 there.1)
