use Rattle.std.proofs.Common.{refl, subst}
use Rattle.std.proofs.lemmas.Option.{slice_get_read}
use Rattle.emc_base.specs.Lists.{At}
use Rattle.round_trip.specs.Words.{Entity}
use Rattle.entity_changes.specs.Spots.{Spot}
use Rattle.entity_changes.specs.making.Types.{AddsType}
use Rattle.entity_changes.proofs.making.Known.{types_more}
use Rattle.entity_changes.proofs.making.standing.add_types.Goals as goal

pub loop-entity-preserved : goal.loop-entity-preserved
loop-entity-preserved c =
    let entities = c.args.entities.now in
    let i = c.loop-entity.entity-index in
    let entity : Entity = c.entity-item.result in
    let here : At entities i entity = slice_get_read entities _ i entity refl c.loop-entity-test.true c.entity-item.is in
    let P : Spot → Type 0 = λ spot. AddsType spot entity.ty c.loop-entity.types c.add_type.new.types in
    types_more c.args.model.now c.args.set entities i entity here c.args.types.now c.loop-entity.types c.add_type.new.types
    (subst P c.in_ok-spot.ensures c.in_ok-add_type.ensures) c.loop-entity.invariant
