use Rattle.schema_laws.proofs.sound_demand.Kept.{writings_listed}
use Rattle.schema_laws.proofs.sound_demand.writings_are_a_list.Goals as goal

pub returns : goal.returns
returns c = record { listed = writings_listed }
