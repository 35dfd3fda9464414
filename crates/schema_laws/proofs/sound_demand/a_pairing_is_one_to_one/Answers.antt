use Rattle.schema_laws.proofs.sound_demand.owners.OneOwner.{whole_key}
use Rattle.schema_laws.proofs.sound_demand.a_pairing_is_one_to_one.Goals as goal

pub returns : goal.returns
returns c = record { whole = whole_key }
