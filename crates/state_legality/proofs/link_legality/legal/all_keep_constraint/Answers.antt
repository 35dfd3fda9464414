use Rattle.std.proofs.Common.{refl}
use Rattle.std.proofs.lemmas.Bool.{both_ways}
use Rattle.std.proofs.lemmas.Option.{slice_get_read}
use Rattle.entity_state.proofs.breach_order.Turns.{all_here, all_seen, each_more, each_none}
use Rattle.state_legality.specs.link_legality.Principals.{KeepsConstraint}
use Rattle.state_legality.proofs.link_legality.legal.all_keep_constraint.Goals as goal

pub loop-entity-init : goal.loop-entity-init
loop-entity-init c = each_none _ _

pub returns-then-not-keeps_constraint : goal.returns-then-not-keeps_constraint
returns-then-not-keeps_constraint c =
    let n = c.loop-entity.entity-index in (
      λ no. absurd cc,
      λ all. absurd (both_ways c.keeps_constraint.result c.if-not-keeps_constraint.true (c.keeps_constraint.ensures.1
          (all_here (KeepsConstraint c.args.model.now c.args.principals.now c.args.u c.args.constraint.now) c.args.dependents.now n c.entity-item.result all
          (slice_get_read _ _ n _ refl c.loop-entity-test.true c.entity-item.is)))),
    )

pub loop-entity-preserved : goal.loop-entity-preserved
loop-entity-preserved c =
    let n = c.loop-entity.entity-index in
    each_more _ _ n c.entity-item.result (slice_get_read _ _ n _ refl c.loop-entity-test.true c.entity-item.is) (c.keeps_constraint.ensures.0 c.if-not-keeps_constraint.false) c.loop-entity.invariant

pub returns : goal.returns
returns c = (
  λ _. all_seen (KeepsConstraint c.args.model.now c.args.principals.now c.args.u c.args.constraint.now) c.args.dependents.now c.loop-entity.entity-index c.loop-entity-test.false c.loop-entity.invariant,
  λ _. refl,
)
