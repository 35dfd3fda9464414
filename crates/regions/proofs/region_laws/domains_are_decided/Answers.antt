use Rattle.regions.proofs.region_laws.values.Domains.{decides_domains}
use Rattle.regions.proofs.region_laws.domains_are_decided.Goals as goal

pub returns : goal.returns
returns c = record { decided = decides_domains }
