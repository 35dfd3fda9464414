use Rattle.std.proofs.Common.{List, Some, ap, subst₂, ◌∙◌}
use Rattle.std.proofs.lemmas.Result.{IfOk-weaker}
use Rattle.round_trip.specs.Words.{SetId, Value}
use Rattle.entity_changes.specs.touched.Seen.{AddsOnce, entity_at}
use Rattle.entity_changes.proofs.touched.Gathers.{gathers_hosted, gathers_joined}
use Rattle.entity_changes.proofs.touched.gathered.Gathered.add_changed.Goals as goal

pub returns-in_ok-key-in-Hosted : goal.returns-in_ok-key-in-Hosted
returns-in_ok-key-in-Hosted c = λ gathered.
    let model = c.args.model.now in
    let cells = c.args.cells.now in
    let declared = c.at-declared.result.now in
    let first_hosts = c.in-Hosted.first_hosts in
    let old = c.args.self.now in
    let new = c.add_entity.new.self in
    let Adds : SetId → List Value → Type 0 = λ s key. AddsOnce (entity_at (s, key)) (s, key) old.entities new.entities in
    IfOk-weaker c.add_entity.result _ _ (λ _ adds.
    gathers_hosted model cells c.args.assoc c.args.link.now old new gathered declared first_hosts c.in-Hosted.fragment c.at-declared.ensures
    (c.link_place.ensures ∙ ap Some c.in-Hosted.is)
    (subst₂ Adds c.host_set.ensures (c.in_ok-key-in-Hosted.ensures ∙ c.host_key.ensures) adds) c.add_entity.ensures.links) c.add_entity.ensures.entities

pub returns-in-Joined : goal.returns-in-Joined
returns-in-Joined c = λ gathered.
    IfOk-weaker c.add_link.result _ _ (λ _ adds.
    gathers_joined c.args.model.now c.args.cells.now c.args.assoc c.args.link.now c.args.self.now c.add_link.new.self gathered c.in-Joined.field-0
    (c.link_place.ensures ∙ ap Some c.in-Joined.is) adds c.add_link.ensures.entities) c.add_link.ensures.links
