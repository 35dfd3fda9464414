use Rattle.std.proofs.Common.{List, All, refl, subst}
use Rattle.std.proofs.lemmas.List.{take_all}
use Rattle.std.proofs.lemmas.Option.{slice_get_read}
use Rattle.round_trip.specs.Words.{Value}
use Rattle.state_legality.specs.link_legality.Ends.{IsMarked}
use Rattle.state_legality.specs.link_legality.InOrder.{StandsWith}
use Rattle.state_legality.proofs.link_legality.InOrder.{all_more}
use Rattle.state_legality.proofs.link_legality.in_order.are_held.Goals as goal

pub loop-key-preserved : goal.loop-key-preserved
loop-key-preserved c =
    all_more (StandsWith (IsMarked c.args.under.now) c.args.standing.now) c.args.linked.now c.loop-key.key-index c.key-item.result
    (slice_get_read _ _ c.loop-key.key-index _ refl c.loop-key-test.true c.key-item.is) c.loop-key.invariant (c.stands_at.ensures c.if-not-stands_at.false)

pub returns : goal.returns
returns c is =
    let P : List (List Value) → Type 0 = λ linked. All (StandsWith (IsMarked c.args.under.now) c.args.standing.now) linked in
    subst P (take_all c.loop-key.key-index c.args.linked.now c.loop-key-test.false) c.loop-key.invariant
