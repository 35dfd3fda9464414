use Rattle.graphs.proofs.base_chains.Chains.{all_within, within_all}
use Rattle.graphs.proofs.base_chains.bases.stay_within.Goals as goal

pub returns : goal.returns
returns c = (
  λ holds. all_within c.args.bases.now (c.are_below.ensures.0 holds),
  λ within. c.are_below.ensures.1 (within_all c.args.bases.now within),
)
