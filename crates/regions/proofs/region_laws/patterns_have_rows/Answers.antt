use Rattle.regions.proofs.region_laws.writings.Cells.{symbols_once}
use Rattle.regions.proofs.region_laws.writings.Rows.{row_cells, rows_all, rows_only, rows_order}
use Rattle.regions.proofs.region_laws.patterns_have_rows.Goals as goal

pub returns-clause-only : goal.returns-clause-only
returns-clause-only c = rows_only

pub returns-clause-all : goal.returns-clause-all
returns-clause-all c = rows_all

pub returns-clause-order : goal.returns-clause-order
returns-clause-order c = rows_order

pub returns-clause-cells : goal.returns-clause-cells
returns-clause-cells c = row_cells

pub returns-clause-once : goal.returns-clause-once
returns-clause-once c = symbols_once
