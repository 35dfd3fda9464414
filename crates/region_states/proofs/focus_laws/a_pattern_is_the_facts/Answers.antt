use Rattle.region_states.proofs.focus.Facts.{entity_cells, entity_rows, link_cells, link_rows}
use Rattle.region_states.proofs.focus_laws.a_pattern_is_the_facts.Goals as goal

pub returns-clause-rows : goal.returns-clause-rows
returns-clause-rows c = entity_rows

pub returns-clause-cells : goal.returns-clause-cells
returns-clause-cells c = entity_cells

pub returns-clause-link_rows : goal.returns-clause-link_rows
returns-clause-link_rows c = link_rows

pub returns-clause-link_cells : goal.returns-clause-link_cells
returns-clause-link_cells c = link_cells
