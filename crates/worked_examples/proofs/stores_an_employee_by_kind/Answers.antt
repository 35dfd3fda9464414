use Rattle.worked_examples.proofs.staff.ByKind as stored
use Rattle.worked_examples.proofs.stores_an_employee_by_kind.Goals as goal

pub returns : goal.returns
returns c = record { legal = stored.legal; demanded = stored.stored; legal_tables = stored.rows_legal; satisfied = stored.satisfied }
