use Rattle.std.proofs.Common.{◌≡◌, refl}
use Rattle.std.proofs.lemmas.Bool.{both_ways}
use Rattle.std.proofs.lemmas.Option.{slice_get_read}
use Rattle.entity_state.proofs.breach_order.Turns.{each_more, each_none}
use Rattle.round_trip.specs.Words.{Entity, IsA, key_of}
use Rattle.state_legality.proofs.link_legality.Legality.{any_here, none_of_all}
use Rattle.state_legality.proofs.link_legality.legal.stands_among.Goals as goal

pub loop-entity-init : goal.loop-entity-init
loop-entity-init c = each_none _ _

pub returns-then-is_it : goal.returns-then-is_it
returns-then-is_it c =
    let n = c.loop-entity.entity-index in (
      λ _. any_here (λ (entity : Entity). IsA c.args.model.now entity.ty c.args.u × (key_of c.args.model.now entity ≡ c.args.key.now)) c.args.entities.now n c.entity-item.result
          (slice_get_read _ _ n _ refl c.loop-entity-test.true c.entity-item.is) (c.is_it.ensures.0 c.if-is_it.true),
      λ _. refl,
    )

pub loop-entity-preserved : goal.loop-entity-preserved
loop-entity-preserved c =
    let n = c.loop-entity.entity-index in
    each_more _ _ n c.entity-item.result (slice_get_read _ _ n _ refl c.loop-entity-test.true c.entity-item.is)
    (λ it. both_ways c.is_it.result c.if-is_it.false (c.is_it.ensures.1 it)) c.loop-entity.invariant

pub returns : goal.returns
returns c = (
  λ no. absurd cc,
  λ some. absurd (none_of_all (λ (entity : Entity). IsA c.args.model.now entity.ty c.args.u × (key_of c.args.model.now entity ≡ c.args.key.now)) c.args.entities.now
      c.loop-entity.entity-index c.loop-entity-test.false c.loop-entity.invariant some),
)
