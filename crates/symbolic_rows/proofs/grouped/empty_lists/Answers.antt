use Rattle.symbolic_rows.proofs.Placed.{all_empty, none_empty, one_more_empty}
use Rattle.symbolic_rows.proofs.grouped.empty_lists.Goals as goal

pub loop-init : goal.loop-init
loop-init g c = none_empty c.new-lists.result.items c.new-lists.ensures.items

pub loop-preserved : goal.loop-preserved
loop-preserved g c = one_more_empty c.loop.counter c.loop.lists.items c.push.new.self.items c.new.result c.loop.invariant c.in_ok-push.ensures.items c.new.ensures.items

pub returns : goal.returns
returns g c = all_empty c.loop.counter c.args.count c.loop.lists.items c.loop.auto.counter-end c.loop-test.false c.loop.invariant
