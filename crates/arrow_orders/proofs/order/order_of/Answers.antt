use Rattle.arrow_orders.proofs.walking.Lines.{all_in_line}
use Rattle.arrow_orders.proofs.order.order_of.Goals as goal

pub returns : goal.returns
returns c = all_in_line c.args.ends.now c.loop-place.place c.loop-place.walk c.loop-place.invariant c.loop-place-test.false
