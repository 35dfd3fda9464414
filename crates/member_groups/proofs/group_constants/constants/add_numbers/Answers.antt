use Rattle.std.proofs.Common.{ℤ, pos, get_or, subst}
use Rattle.std.proofs.lemmas.Option.{slice_get-get_or}
use Rattle.round_trip.specs.Words.{Value}
use Rattle.member_groups.specs.group_constants.Constants.{AddsIn, IsEntry, IsNumber}
use Rattle.member_groups.proofs.group_constants.Sets.{adds_in_next}
use Rattle.member_groups.proofs.group_constants.constants.add_numbers.Goals as goal

pub loop-number-preserved : goal.loop-number-preserved
loop-number-preserved c =
    let numbers = c.args.numbers.now in
    let n = c.loop-number.number-index in
    let nil : ℤ = pos 0 in
    let number = get_or numbers n nil in
    let Comes : Value → Type 0 = λ value. AddsIn (IsEntry c.args.group value) c.loop-number.sets.items c.add_value.new.sets.items in
    adds_in_next (IsNumber c.args.group) numbers n number c.args.sets.now.items c.loop-number.sets.items c.add_value.new.sets.items
    (slice_get-get_or numbers n nil c.loop-number-test.true) c.loop-number.invariant (subst Comes c.whole.ensures c.in_ok-add_value.ensures)
