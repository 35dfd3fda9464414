use Rattle.worked_examples.proofs.Seats as stored
use Rattle.worked_examples.proofs.stores_seats.Goals as goal

pub returns : goal.returns
returns c = record { legal = stored.legal; keyed = stored.keyed; demanded = stored.stored; legal_tables = stored.rows_legal; satisfied = stored.satisfied }
