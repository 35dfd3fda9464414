use Rattle.worked_examples.proofs.bosses.OneBoss as stored
use Rattle.worked_examples.proofs.stores_one_boss.Goals as goal

pub returns : goal.returns
returns c = record { legal = stored.legal; demanded = stored.stored; legal_tables = stored.tables_legal; satisfied = stored.satisfied }
