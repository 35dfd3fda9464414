use Rattle.regions.proofs.region_laws.pattern.Settled.{clash_decided}
use Rattle.regions.proofs.region_laws.pattern_laws.a_clash_is_two_symbols.Goals as goal

pub returns : goal.returns
returns c = record { told = clash_decided }
