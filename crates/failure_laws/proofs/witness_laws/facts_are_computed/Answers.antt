use Rattle.failure_laws.proofs.witness.Computed.{fact_computed, fact_so}
use Rattle.failure_laws.proofs.witness_laws.facts_are_computed.Goals as goal

pub returns-clause-computed : goal.returns-clause-computed
returns-clause-computed c = fact_computed

pub returns-clause-so : goal.returns-clause-so
returns-clause-so c = fact_so
