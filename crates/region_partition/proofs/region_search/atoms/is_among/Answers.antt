use Rattle.std.proofs.Common.{sym, ◌∙◌}
use Rattle.region_partition.proofs.region_search.Constants.{Decides-among}
use Rattle.region_partition.proofs.region_search.atoms.is_among.Goals as goal

pub returns : goal.returns
returns c = let among = Decides-among c.args.values.now c.args.value.now in (λ is. among.0 (sym c.has.ensures ∙ is), λ has. c.has.ensures ∙ among.1 has)
