use Rattle.mapping_core.proofs.OwnTables.{given_back, legal_tables, own_tables}
use Rattle.mapping_core.proofs.loading.laws.what_is_stored_is_loaded.Goals as goal

pub returns-clause-legal : goal.returns-clause-legal
returns-clause-legal c = λ schema accepted state legal tables are. legal_tables schema state tables are accepted legal

pub returns-clause-own : goal.returns-clause-own
returns-clause-own c = λ schema state tables are. own_tables schema state tables are

pub returns-clause-loaded : goal.returns-clause-loaded
returns-clause-loaded c = λ schema state legal tables legal_tables own result loads. given_back schema state tables legal legal_tables own result loads
