use Rattle.schema_laws.proofs.sound_demand.Deriving.{decides_types}
use Rattle.schema_laws.proofs.sound_demand.types_are_decided.Goals as goal

pub returns : goal.returns
returns c = record { decided = decides_types }
