use Rattle.std.proofs.Common.{refl}
use Rattle.std.proofs.lemmas.Bool.{both_ways}
use Rattle.std.proofs.lemmas.Option.{slice_get_read}
use Rattle.entity_state.proofs.breach_order.Turns.{all_here, all_seen, each_more, each_none}
use Rattle.state_legality.specs.set_legality.Tells.{FitsSet}
use Rattle.state_legality.proofs.set_legality.legal.fit_set.Goals as goal

pub loop-entity-init : goal.loop-entity-init
loop-entity-init c = each_none _ _

pub returns-then-not-fits_set : goal.returns-then-not-fits_set
returns-then-not-fits_set c =
    let n = c.loop-entity.entity-index in (
      λ no. absurd cc,
      λ all. absurd (both_ways c.fits_set.result c.if-not-fits_set.true (c.fits_set.ensures.1
          (all_here (FitsSet c.args.model.now c.args.set.now) c.args.entities.now n c.entity-item.result all
          (slice_get_read _ _ n _ refl c.loop-entity-test.true c.entity-item.is)))),
    )

pub loop-entity-preserved : goal.loop-entity-preserved
loop-entity-preserved c =
    let n = c.loop-entity.entity-index in
    each_more _ _ n c.entity-item.result (slice_get_read _ _ n _ refl c.loop-entity-test.true c.entity-item.is) (c.fits_set.ensures.0 c.if-not-fits_set.false)
    c.loop-entity.invariant

pub returns : goal.returns
returns c = (
  λ _. all_seen (FitsSet c.args.model.now c.args.set.now) c.args.entities.now c.loop-entity.entity-index c.loop-entity-test.false c.loop-entity.invariant,
  λ _. refl,
)
