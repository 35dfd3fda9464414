-- Whether a pattern has a row of a table, and its cells.
use Rattle.std.proofs.Common.{◌≡◌, ◌==◌, Decides, refl}
use Rattle.std.proofs.lemmas.Bool.Decides.{Decides-like}
use Rattle.round_trip.specs.Words.{ColId, Column, Table, TableId}
use Rattle.round_trip.specs.FailsAt.{HasColumn}
use Rattle.schema_laws.proofs.state_demand.lists.Lists.{Decides-any, any_of, of_any}
use Rattle.regions.specs.declared.pattern.Focus.{Focus}
use Rattle.regions.specs.declared.pattern.Pattern.{Pattern}
use Rattle.regions.specs.declared.pattern.PatternRow.{PatternRow}
use Rattle.regions.specs.Basis.{Basis}
use Rattle.regions.specs.Patterns.{cell_symbols, pattern_of, pattern_row, writings_of}
use Rattle.regions.specs.region_laws.IsBasis.{IsBasis}
use Rattle.regions.proofs.region_laws.writings.Cells.{Decides-table}
use Rattle.regions.proofs.region_laws.writings.Rows.{row_cells, rows_all}
use Rattle.regions.specs.region_laws.pattern.Listed.{HasCell}
use Rattle.region_states.specs.focus.Held.{HasRow}
use Rattle.region_states.proofs.focus.Listed.{has_row as row_written}
use Rattle.region_states.specs.conflicts.Facts.{has_row}

-- whether the pattern has a row of the table
pub Decides-row : (pattern : Pattern) (t : TableId) → Decides (has_row pattern t) (HasRow pattern t)
Decides-row pattern t = Decides-like (has_row pattern t)
    (λ any. of_any (λ (row : PatternRow). row.table ≡ t) pattern.rows any)
    (λ has. any_of (λ (row : PatternRow). row.table ≡ t) pattern.rows has.0 has.1 has.2)
    (Decides-any (λ (row : PatternRow). row.table.index == t.index) (λ (row : PatternRow). row.table ≡ t) (λ row. Decides-table row.table t) pattern.rows)

-- such a row has a cell of each column of its table
pub cell_there : (basis : Basis) → IsBasis basis → (of : Focus) (t : TableId) (col : ColId) (table : Table) (column : Column)
    → HasColumn basis.schema t table col column → HasRow (pattern_of basis of) t → HasCell (pattern_of basis of) t col (cell_symbols (writings_of basis of) t col)
cell_there basis is of t col table column here row = record {
  row = pattern_row (writings_of basis of) t table;
  is_row = rows_all basis.schema.store (writings_of basis of) t table here.is_table ((row_written basis is of t).1 row);
  of_table = refl;
  is_cell = row_cells basis.schema.store (writings_of basis of) t table col column here.is_column;
}
