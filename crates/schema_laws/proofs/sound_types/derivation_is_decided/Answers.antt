use Rattle.schema_laws.proofs.sound_types.Deciding.{derived_or_not}
use Rattle.schema_laws.proofs.sound_types.derivation_is_decided.Goals as goal

pub returns : goal.returns
returns c = record { decided = λ model t u sound. derived_or_not model u sound t }
