use Rattle.schema_laws.proofs.sound_demand.Kept.{clash_decided, clash_shown}
use Rattle.schema_laws.proofs.sound_demand.a_clash_is_decided.Goals as goal

pub returns-clause-decided : goal.returns-clause-decided
returns-clause-decided c = clash_decided

pub returns-clause-shown : goal.returns-clause-shown
returns-clause-shown c = clash_shown
