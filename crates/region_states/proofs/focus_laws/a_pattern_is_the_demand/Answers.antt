use Rattle.region_states.proofs.focus.Demanded.{cells, link_cells, link_rows, rows}
use Rattle.region_states.proofs.focus.Flags.{held_at}
use Rattle.region_states.proofs.focus.Listed.{row_owned}
use Rattle.region_states.proofs.focus_laws.a_pattern_is_the_demand.Goals as goal

pub returns-clause-rows : goal.returns-clause-rows
returns-clause-rows c = rows

pub returns-clause-cells : goal.returns-clause-cells
returns-clause-cells c = cells

pub returns-clause-only : goal.returns-clause-only
returns-clause-only c = row_owned

pub returns-clause-link_rows : goal.returns-clause-link_rows
returns-clause-link_rows c = link_rows

pub returns-clause-link_cells : goal.returns-clause-link_cells
returns-clause-link_cells c = link_cells

pub returns-clause-partners : goal.returns-clause-partners
returns-clause-partners c = held_at
