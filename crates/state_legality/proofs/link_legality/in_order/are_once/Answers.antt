use Rattle.state_legality.proofs.link_legality.InOrder.{none_told, once_by}
use Rattle.state_legality.proofs.link_legality.in_order.are_once.Goals as goal

pub returns-in_ok-first_repeat-in_default : goal.returns-in_ok-first_repeat-in_default
returns-in_ok-first_repeat-in_default c is =
    let told = c.in_ok-first_repeat-in_default.field-0 in
    once_by c.args.mult c.args.linked.now told c.in_ok-first_repeat-in_default.ensures (none_told told c.is_none.result c.is_none.ensures is)
