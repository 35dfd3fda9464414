use Rattle.regions.proofs.region_laws.writings.Owned.{cell_demanded, link_cell_demanded, link_row_demanded, row_demanded, row_writings}
use Rattle.regions.proofs.region_laws.cells_are_symbols.Goals as goal

pub returns-clause-writings : goal.returns-clause-writings
returns-clause-writings c = row_writings

pub returns-clause-rows : goal.returns-clause-rows
returns-clause-rows c = row_demanded

pub returns-clause-cells : goal.returns-clause-cells
returns-clause-cells c = cell_demanded

pub returns-clause-link_rows : goal.returns-clause-link_rows
returns-clause-link_rows c = link_row_demanded

pub returns-clause-link_cells : goal.returns-clause-link_cells
returns-clause-link_cells c = link_cell_demanded
