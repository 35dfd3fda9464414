use Rattle.std.proofs.Common.{ℕ, length, subst₂, ap, ◌∙◌}
use Rattle.round_trip.specs.Words.{State}
use Rattle.entity_changes.specs.declared.making.foretold.Foretold.{Foretold}
use Rattle.entity_changes.specs.making.Fates.{HasSize}
use Rattle.entity_changes.proofs.making.Made.{made_state}
use Rattle.entity_changes.proofs.making.lists.changed_state.Goals as goal

pub returns : goal.returns
returns c =
    let state : State = c.args.state.now in
    let told : Foretold = c.in_ok-told.told in
    let P : ℕ → ℕ → Type 0 = λ sets assocs. HasSize sets assocs told in
    let size : HasSize (length state.entities) (length state.links) told = subst₂ P (ap length c.entity_lists-entities.ensures)
    (ap length c.link_lists-links.ensures) c.in_ok-told.ensures.size in
    c.of_lists.ensures
    ∙ made_state c.args.model.now told state c.args.changes.now c.in_ok-told.ensures.told size c.entity_lists-entities.result.now c.link_lists-links.result.now
    c.in_ok-new_entities.new_entities.items c.in_ok-new_links.new_links.items
    c.entity_lists-entities.ensures c.link_lists-links.ensures c.in_ok-new_entities.ensures c.in_ok-new_links.ensures
