use Rattle.std.proofs.Common.{◌≡◌, ◌<◌, ◌≤◌, get_or, length, refl, sym, ◌∙◌, arith}
use Rattle.std.proofs.lemmas.Bool.{both_ways}
use Rattle.std.proofs.lemmas.List.{map-id}
use Rattle.std.proofs.lemmas.Option.{slice_get-get_or, slice_get_read}
use Rattle.round_trip.specs.Words.{PropId, Value, value_of}
use Rattle.entity_state.proofs.breach_order.SameValues.{same_at, same_maps, same_more}
use Rattle.entity_state.proofs.entity_values.compared.has_values.Goals as goal

pub returns-then-not-has_value : goal.returns-then-not-has_value
returns-then-not-has_value c =
    let props = c.args.props.now in
    let values = c.args.values.now in
    let n = c.loop-place.place in
    let nil : PropId = record { index = 0 } in
    let long : length props ≡ length values = c.loop-place.invariant.0 in
    let inside : n < length props = c.loop-place-test.true in
    let within : n < length values = omega arith in (
      λ no. absurd cc,
      λ same. absurd (both_ways c.has_value.result c.if-not-has_value.true (c.has_value.ensures.1
          (same_at (value_of c.args.model.now c.args.entity.now) (λ (value : Value). value) props values (same ∙ sym (map-id values)) n (get_or props n nil)
          c.index-values-place.result (slice_get-get_or props n nil inside) (slice_get_read _ _ n _ refl within c.index-values-place.is)))),
    )

pub loop-place-preserved : goal.loop-place-preserved
loop-place-preserved c =
    let props = c.args.props.now in
    let values = c.args.values.now in
    let n = c.loop-place.place in
    let nil : PropId = record { index = 0 } in
    let long : length props ≡ length values = c.loop-place.invariant.0 in
    let inside : n < length props = c.loop-place-test.true in
    let within : n < length values = omega arith in (
      long,
      same_more (value_of c.args.model.now c.args.entity.now) (λ (value : Value). value) props values n (get_or props n nil) c.index-values-place.result
          (slice_get-get_or props n nil inside) (slice_get_read _ _ n _ refl within c.index-values-place.is) (c.has_value.ensures.0 c.if-not-has_value.false) c.loop-place.invariant.1,
    )

pub returns : goal.returns
returns c =
    let props = c.args.props.now in
    let values = c.args.values.now in
    let end : length props ≤ c.loop-place.place = c.loop-place-test.false in (
      λ _. same_maps (value_of c.args.model.now c.args.entity.now) (λ (value : Value). value) props values c.loop-place.invariant.0
          (λ k one other here there within. c.loop-place.invariant.1 k one other here there (omega arith)) ∙ map-id values,
      λ _. refl,
    )
