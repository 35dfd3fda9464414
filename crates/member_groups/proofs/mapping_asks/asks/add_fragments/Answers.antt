use Rattle.std.proofs.Common.{List, Contains, refl, subst}
use Rattle.std.proofs.lemmas.Option.{slice_get_read}
use Rattle.round_trip.specs.Words.{Cond}
use Rattle.member_groups.specs.mapping_asks.Adding.{Adds, Each}
use Rattle.member_groups.specs.mapping_asks.Asks.{AsksBy, IsAskBy}
use Rattle.member_groups.proofs.mapping_asks.Adding.{adds_next}
use Rattle.member_groups.proofs.mapping_asks.asks.add_fragments.Goals as goal

pub loop-fragment-preserved : goal.loop-fragment-preserved
loop-fragment-preserved c =
    let n = c.loop-fragment.fragment-index in
    let x = c.fragment-item.result in
    let so_far = c.loop-fragment.asks.items in
    let after = c.add_conditions.new.asks.items in
    let Comes : List Cond → Type 0 = λ conds. Adds (Each (IsAskBy x.table) conds) (Contains so_far) (Contains after) in
    adds_next AsksBy c.args.fragments.now n x (Contains c.args.asks.now.items) (Contains so_far) (Contains after)
    (slice_get_read _ _ n _ refl c.loop-fragment-test.true c.fragment-item.is) c.loop-fragment.invariant (subst Comes c.as_slice.ensures.items c.in_ok-add_conditions.ensures)
