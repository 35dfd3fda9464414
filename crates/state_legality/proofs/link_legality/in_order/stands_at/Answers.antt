use Rattle.std.proofs.Common.{sym}
use Rattle.state_legality.proofs.link_legality.in_order.stands_at.Goals as goal

pub returns-then-is_it : goal.returns-then-is_it
returns-then-is_it c is =
    let one = c.in-Some.one.now in
    let there = c.in-Some.ensures.lookup.3 in
    (c.args.place, one, there.0, sym (there.1 one), (c.is_marked.ensures.0 is, c.is_it.ensures c.if-is_it.true))
