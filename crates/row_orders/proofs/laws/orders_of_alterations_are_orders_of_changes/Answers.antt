use Rattle.row_orders.proofs.matching.Lined.{in_line}
use Rattle.row_orders.proofs.matching.Ringed.{in_ring}
use Rattle.row_orders.proofs.matching.Waited.{waits_as_precedes}
use Rattle.row_orders.proofs.laws.orders_of_alterations_are_orders_of_changes.Goals as goal

pub returns-clause-waits : goal.returns-clause-waits
returns-clause-waits c = waits_as_precedes

pub returns-clause-line : goal.returns-clause-line
returns-clause-line c = in_line

pub returns-clause-ring : goal.returns-clause-ring
returns-clause-ring c = in_ring
