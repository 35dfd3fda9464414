use Rattle.std.proofs.Common.{◌≡◌, ◌<◌, ◌≤◌, get_or, length, refl, arith}
use Rattle.std.proofs.lemmas.Bool.{both_ways}
use Rattle.std.proofs.lemmas.Option.{slice_get-get_or}
use Rattle.round_trip.specs.Words.{PropId, value_of}
use Rattle.entity_state.proofs.breach_order.SameValues.{same_at, same_maps, same_more}
use Rattle.entity_state.proofs.entity_values.compared.have_same_values.Goals as goal

pub returns-then-not-is_same_value : goal.returns-then-not-is_same_value
returns-then-not-is_same_value c =
    let props = c.args.props.now in
    let others = c.args.other_props.now in
    let n = c.loop-place.place in
    let nil : PropId = record { index = 0 } in
    let long : length props ≡ length others = c.loop-place.invariant.0 in
    let inside : n < length props = c.loop-place-test.true in (
      λ no. absurd cc,
      λ same. absurd (both_ways c.is_same_value.result c.if-not-is_same_value.true (c.is_same_value.ensures.1
          (same_at (value_of c.args.model.now c.args.one.now) (value_of c.args.model.now c.args.other.now) props others same n (get_or props n nil) (get_or others n nil)
          (slice_get-get_or props n nil inside) (slice_get-get_or others n nil (omega arith))))),
    )

pub loop-place-preserved : goal.loop-place-preserved
loop-place-preserved c =
    let props = c.args.props.now in
    let others = c.args.other_props.now in
    let n = c.loop-place.place in
    let nil : PropId = record { index = 0 } in
    let long : length props ≡ length others = c.loop-place.invariant.0 in
    let inside : n < length props = c.loop-place-test.true in (
      long,
      same_more (value_of c.args.model.now c.args.one.now) (value_of c.args.model.now c.args.other.now) props others n (get_or props n nil) (get_or others n nil)
          (slice_get-get_or props n nil inside) (slice_get-get_or others n nil (omega arith)) (c.is_same_value.ensures.0 c.if-not-is_same_value.false) c.loop-place.invariant.1,
    )

pub returns : goal.returns
returns c =
    let props = c.args.props.now in
    let others = c.args.other_props.now in
    let end : length props ≤ c.loop-place.place = c.loop-place-test.false in (
      λ _. same_maps (value_of c.args.model.now c.args.one.now) (value_of c.args.model.now c.args.other.now) props others c.loop-place.invariant.0
          (λ k one other here there within. c.loop-place.invariant.1 k one other here there (omega arith)),
      λ _. refl,
    )
