use Rattle.csdl_meaning.proofs.csdl_making.RisingLists.{sorted_once}
use Rattle.csdl_meaning.proofs.csdl_making.kinds.rising.Goals as goal

pub returns : goal.returns
returns c = sorted_once c.args.numbers.items c.sort_unstable.new.self.items c.dedup.new.self.items c.sort_unstable.ensures.permutation c.sort_unstable.ensures.sorted c.dedup.ensures.filtered
