use Rattle.schema_laws.proofs.same_states.SameState.{as_legal}
use Rattle.schema_laws.proofs.same_states.SameTables.{tables_moved, tables_too}
use Rattle.schema_laws.proofs.same_states.the_same_state_is_as_legal.Goals as goal

pub returns-clause-legal : goal.returns-clause-legal
returns-clause-legal c model one two same shape legal = as_legal model one two same shape legal

pub returns-clause-tables : goal.returns-clause-tables
returns-clause-tables c schema one two same tables are = tables_too schema one two same tables are

pub returns-clause-order : goal.returns-clause-order
returns-clause-order c schema state tables others shape moved are = tables_moved schema state tables others moved shape are
