use Rattle.mapping_core.proofs.printed.PrintedStates.{entities_back}
use Rattle.mapping_core.proofs.printed.PrintedTables.{state_back, tables_back}
use Rattle.mapping_core.proofs.loading.laws.what_is_printed_is_loaded.Goals as goal

pub returns-clause-tables : goal.returns-clause-tables
returns-clause-tables c = λ schema read accepted state legal text told result reads. tables_back schema read accepted state legal text told result reads

pub returns-clause-state : goal.returns-clause-state
returns-clause-state c = λ schema read accepted state legal text told tables holds result loads. state_back schema read accepted state legal text told tables holds result loads

pub returns-clause-entities : goal.returns-clause-entities
returns-clause-entities c = λ schema read state legal text told result reads. entities_back schema read state legal text told result reads
