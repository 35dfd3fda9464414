use Rattle.msl_fragments.proofs.sound_owners.owners.OneOwner.{owners_alike}
use Rattle.msl_fragments.proofs.sound_owners.owners.PairedAlike.{paired_alike}
use Rattle.msl_fragments.proofs.sound_owners.kept_tables_have_one_owner.Goals as goal

pub returns : goal.returns
returns c = record { pairings = paired_alike; owners = owners_alike }
