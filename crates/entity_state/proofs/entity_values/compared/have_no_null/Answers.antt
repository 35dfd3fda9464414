use Rattle.std.proofs.Common.{get_or, refl}
use Rattle.std.proofs.lemmas.Bool.{both_ways}
use Rattle.std.proofs.lemmas.Option.{slice_get-get_or}
use Rattle.round_trip.specs.Words.{PropId}
use Rattle.entity_state.proofs.breach_order.Turns.{each_more, each_none}
use Rattle.entity_state.proofs.entity_values.Nulls.{all_told, null_told}
use Rattle.entity_state.proofs.entity_values.compared.have_no_null.Goals as goal

pub loop-prop-init : goal.loop-prop-init
loop-prop-init c = each_none _ _

pub returns-then-is_null_at : goal.returns-then-is_null_at
returns-then-is_null_at c =
    let props = c.args.props.now in
    let n = c.loop-prop.prop-index in
    let nil : PropId = record { index = 0 } in (
      λ no. absurd cc,
      λ all. absurd (null_told c.args.model.now c.args.entity.now props n (get_or props n nil)
          (slice_get-get_or props n nil c.loop-prop-test.true) (c.is_null_at.ensures.0 c.if-is_null_at.true) all),
    )

pub loop-prop-preserved : goal.loop-prop-preserved
loop-prop-preserved c =
    let props = c.args.props.now in
    let n = c.loop-prop.prop-index in
    let nil : PropId = record { index = 0 } in
    each_more _ _ n (get_or props n nil) (slice_get-get_or props n nil c.loop-prop-test.true)
    (λ null. both_ways c.is_null_at.result c.if-is_null_at.false (c.is_null_at.ensures.1 null)) c.loop-prop.invariant

pub returns : goal.returns
returns c = (
  λ _. all_told c.args.model.now c.args.entity.now c.args.props.now c.loop-prop.prop-index c.loop-prop-test.false c.loop-prop.invariant,
  λ _. refl,
)
