use Rattle.std.proofs.Common.{ℕ, List, All, Contains, refl, subst}
use Rattle.std.proofs.lemmas.List.{take_all}
use Rattle.std.proofs.lemmas.Option.{slice_get_read}
use Rattle.edm_types.specs.Forest.{type_numbered}
use Rattle.round_trip.specs.Words.{Value}
use Rattle.state_legality.specs.link_legality.Ends.{IsMarked}
use Rattle.state_legality.proofs.link_legality.InOrder.{all_more}
use Rattle.state_legality.proofs.link_legality.in_order.are_linked.Goals as goal

pub loop-one-preserved : goal.loop-one-preserved
loop-one-preserved c =
    let Met : List Value × ℕ → Type 0 = λ one. IsMarked c.args.under.now (type_numbered one.1) → Contains c.args.linked.now one.0 in
    all_more Met c.args.standing.now c.loop-one.one-index c.one-item.result
    (slice_get_read _ _ c.loop-one.one-index _ refl c.loop-one-test.true c.one-item.is) c.loop-one.invariant (c.is_met.ensures c.if-not-is_met.false)

pub returns : goal.returns
returns c is =
    let P : List (List Value × ℕ) → Type 0 = λ standing. All (λ (one : List Value × ℕ). IsMarked c.args.under.now (type_numbered one.1) → Contains c.args.linked.now one.0) standing in
    subst P (take_all c.loop-one.one-index c.args.standing.now c.loop-one-test.false) c.loop-one.invariant
