use Rattle.worked_examples.proofs.bosses.JoinedBosses as stored
use Rattle.worked_examples.proofs.joins_bosses.Goals as goal

pub returns : goal.returns
returns c = record { legal = stored.legal; demanded = stored.stored; legal_tables = stored.tables_legal; satisfied = stored.satisfied }
