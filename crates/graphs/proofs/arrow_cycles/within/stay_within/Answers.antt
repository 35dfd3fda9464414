use Rattle.graphs.proofs.arrow_cycles.Inside.{all_from_stay, stay_from_all}
use Rattle.graphs.proofs.arrow_cycles.within.stay_within.Goals as goal

pub returns : goal.returns
returns c = (
  λ holds. stay_from_all c.args.count c.args.arrows.now (c.are_within.ensures.0 holds),
  λ within. c.are_within.ensures.1 (all_from_stay c.args.count c.args.arrows.now within),
)
