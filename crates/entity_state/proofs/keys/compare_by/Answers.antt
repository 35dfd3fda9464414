use Rattle.std.proofs.Common.{◌∙◌, sym, arith}
use Rattle.emc_base.specs.Order.{value_cmp}
use Rattle.round_trip.specs.Words.{value_of}
use Rattle.entity_state.proofs.Ends.{even, longer, shorter}
use Rattle.entity_state.proofs.keys.compare_by.Goals as goal

pub returns-then-i-others : goal.returns-then-i-others
returns-then-i-others c =
    sym (c.loop-i.invariant
    ∙ longer value_cmp (value_of c.args.model.now c.args.one.now) (value_of c.args.model.now c.args.two.now) c.args.props.now c.args.others.now c.loop-i.i
    c.loop-i-test.true c.if-i-others.true)

pub returns-then-props-others : goal.returns-then-props-others
returns-then-props-others c =
    sym (c.loop-i.invariant
    ∙ shorter value_cmp (value_of c.args.model.now c.args.one.now) (value_of c.args.model.now c.args.two.now) c.args.props.now c.args.others.now c.loop-i.i
    c.loop-i-test.false (omega (arith, c.loop-i-test.false, c.loop-i.auto.i-end, c.if-props-others.true)))

pub returns : goal.returns
returns c =
    sym (c.loop-i.invariant
    ∙ even value_cmp (value_of c.args.model.now c.args.one.now) (value_of c.args.model.now c.args.two.now) c.args.props.now c.args.others.now c.loop-i.i
    c.loop-i-test.false (omega (arith, c.loop-i-test.false, c.if-props-others.false)))
