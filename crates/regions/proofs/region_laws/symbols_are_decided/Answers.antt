use Rattle.regions.proofs.region_laws.values.Symbols.{Decides-symbol}
use Rattle.regions.proofs.region_laws.symbols_are_decided.Goals as goal

pub returns : goal.returns
returns c = record { decided = Decides-symbol }
