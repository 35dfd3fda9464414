use Rattle.std.proofs.Common.{◌≡◌, sym, ap, subst, ◌∙◌}
use Rattle.std.specs.BTreeMap.{get}
use Rattle.std.proofs.lemmas.Result.{IfOk-weaker}
use Rattle.entity_changes.specs.declared.change.Change.{Change}
use Rattle.entity_changes.specs.declared.making.standing.Standing.{Standing}
use Rattle.entity_changes.specs.Spots.{Spot, spot_cmp}
use Rattle.entity_changes.specs.making.Standing.{AddsLink, Takes, TakesLink}
use Rattle.entity_changes.specs.making.Types.{DeletesTypes, InsertsTypes, update_reason}
use Rattle.entity_changes.proofs.making.Taken.{deletes, inserts, links, unlinks, updates}
use Rattle.entity_changes.proofs.making.standing.Standing.take.Goals as goal

pub returns-in_ok-spot-in-Insert : goal.returns-in_ok-spot-in-Insert
returns-in_ok-spot-in-Insert c =
    let model = c.args.model.now in
    let old : Standing = c.args.self.now in
    let types = c.insert_type.new.types in
    let entity = c.in-Insert.entity in
    IfOk-weaker c.insert_type.result _ _ (λ found told.
    subst (λ (one : Change). Takes model one old record { entities = types; links = old.links } found) (sym c.in-Insert.is)
    (inserts model c.in-Insert.set entity old types found
    (subst (λ (spot : Spot). InsertsTypes spot entity.ty old.entities types found) c.in_ok-spot-in-Insert.ensures told))) c.insert_type.ensures

pub returns-in_ok-spot-in-Update : goal.returns-in_ok-spot-in-Update
returns-in_ok-spot-in-Update c =
    let model = c.args.model.now in
    let old : Standing = c.args.self.now in
    let entity = c.in-Update.entity in
    let held : c.copied-held.result ≡ get spot_cmp old.entities c.in_ok-spot-in-Update.spot = c.copied-held.ensures ∙ c.get.ensures.value in
    subst (λ (one : Change). Takes model one old old c.update_reason.result) (sym c.in-Update.is)
    (updates model c.in-Update.set entity old old.entities c.update_reason.result
    (c.update_reason.ensures ∙ ap (λ types. update_reason types entity.ty) (held ∙ ap (get spot_cmp old.entities) c.in_ok-spot-in-Update.ensures)))

pub returns-in_ok-spot-in-Delete : goal.returns-in_ok-spot-in-Delete
returns-in_ok-spot-in-Delete c =
    let model = c.args.model.now in
    let old : Standing = c.args.self.now in
    let types = c.delete_types.new.types in
    subst (λ (one : Change). Takes model one old record { entities = types; links = old.links } c.delete_types.result) (sym c.in-Delete.is)
    (deletes model c.in-Delete.set c.in-Delete.key old types c.delete_types.result
    (subst (λ (spot : Spot). DeletesTypes spot old.entities types c.delete_types.result) c.in_ok-spot-in-Delete.ensures c.delete_types.ensures))

pub returns-in_ok-spot-in-Link : goal.returns-in_ok-spot-in-Link
returns-in_ok-spot-in-Link c =
    let model = c.args.model.now in
    let old : Standing = c.args.self.now in
    let spots = c.add_link.new.links in
    IfOk-weaker c.add_link.result _ _ (λ found told.
    subst (λ (one : Change). Takes model one old record { entities = old.entities; links = spots } found) (sym c.in-Link.is)
    (links model c.in-Link.assoc c.in-Link.link old spots found
    (subst (λ (spot : Spot). AddsLink spot old.links spots found) c.in_ok-spot-in-Link.ensures told))) c.add_link.ensures

pub returns-in_ok-spot-in-Unlink : goal.returns-in_ok-spot-in-Unlink
returns-in_ok-spot-in-Unlink c =
    let model = c.args.model.now in
    let old : Standing = c.args.self.now in
    let spots = c.take_link.new.links in
    subst (λ (one : Change). Takes model one old record { entities = old.entities; links = spots } c.take_link.result) (sym c.in-Unlink.is)
    (unlinks model c.in-Unlink.assoc c.in-Unlink.link old spots c.take_link.result
    (subst (λ (spot : Spot). TakesLink spot old.links spots c.take_link.result) c.in_ok-spot-in-Unlink.ensures c.take_link.ensures))
