use Rattle.region_partition.proofs.limit_laws.Told.{one_told}
use Rattle.region_partition.proofs.limit_laws.one_limit.Goals as goal

pub returns : goal.returns
returns c = one_told
