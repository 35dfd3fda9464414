use Rattle.std.proofs.Common.{refl}
use Rattle.std.proofs.lemmas.Option.{slice_get_read}
use Rattle.member_groups.proofs.group_constants.Sets.{adds_value}
use Rattle.member_groups.proofs.group_constants.constants.add_value.Goals as goal

pub returns-in_ok-insert : goal.returns-in_ok-insert
returns-in_ok-insert c =
    let there = c.in-Some.ensures.item in
    adds_value c.args.sets.now.items c.args.group.index c.in-Some.set.now c.insert.new.self c.args.value
    (slice_get_read _ _ _ _ refl there.3.0 there.1) c.in_ok-insert.ensures.updates
