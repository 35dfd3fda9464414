use Rattle.groupings.proofs.item_groups.Keyed.{one_more}
use Rattle.groupings.proofs.item_groups.groups.group.Goals as goal

pub loop-key-preserved : goal.loop-key-preserved
loop-key-preserved g c = one_more g.K.Ord.cmp g.met.K.Ord.total c.loop-key.yielded c.in-Some.key c.in-Some.item c.loop-key.groups c.add.new.groups c.loop-key.invariant
    c.in_ok-add.ensures.own c.in_ok-add.ensures.others
