use Rattle.schema_laws.proofs.sound_demand.owners.OneOwner.{one_joined, one_owner, owned_or_joined}
use Rattle.schema_laws.proofs.sound_demand.owners.Owned.{has_owner}
use Rattle.schema_laws.proofs.sound_demand.each_table_has_one_owner.Goals as goal

pub returns-clause-owner : goal.returns-clause-owner
returns-clause-owner c = has_owner

pub returns-clause-one : goal.returns-clause-one
returns-clause-one c schema sound t written owner other pairing others owned too = one_owner schema sound t owner other pairing others owned too written

pub returns-clause-alone : goal.returns-clause-alone
returns-clause-alone c = owned_or_joined

pub returns-clause-joined : goal.returns-clause-joined
returns-clause-joined c = one_joined
