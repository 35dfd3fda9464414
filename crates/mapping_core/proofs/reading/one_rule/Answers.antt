use Rattle.mapping_core.proofs.OneRule.{one_told}
use Rattle.mapping_core.proofs.reading.one_rule.Goals as goal

pub returns : goal.returns
returns c = one_told
