use Rattle.std.proofs.Common.{arith, ◌∙◌, ◌<◌, ap, length, subst, sym}
use Rattle.std.proofs.lemmas.Grind.{common_steps}
use Rattle.std.specs.Borrow.{Bor}
use Rattle.std.proofs.lemmas.List.{get_or-map, length-map}
use Rattle.round_trip.specs.Words.{Entity, IsEntity}
use Rattle.entity_state.specs.InOrder.{lent}
use Rattle.entity_state.proofs.state_tree.entities_tree.Goals as goal

pub entity_tree-requires : goal.entity_tree-requires
entity_tree-requires c =
    let item = c.entity-item.result in
    let i = c.loop-entity.entity-index in
    let within : i < length (lent c.args.entities.now) = rw length-map c.loop-entity-test.true in
    subst (IsEntity c.args.model.now)
    (get_or-map (λ (entity : Bor Entity). entity.now) c.args.entities.now i item item.now c.loop-entity-test.true ∙ ap (λ (entity : Bor Entity). entity.now) (sym c.entity-item.is))
    (c.requires i item.now within)

pub loop-entity-preserved : goal.loop-entity-preserved
loop-entity-preserved c = grind (arith, common_steps)

pub returns : goal.returns
returns c = grind (arith, common_steps)
