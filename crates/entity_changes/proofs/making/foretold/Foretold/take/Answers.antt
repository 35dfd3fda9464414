use Rattle.std.proofs.Common.{◌<◌, length, sym, subst}
use Rattle.std.proofs.lemmas.Result.{IfOk-weaker}
use Rattle.entity_changes.specs.declared.change.Change.{Change}
use Rattle.entity_changes.specs.declared.making.foretold.Foretold.{Foretold}
use Rattle.entity_changes.specs.Spots.{Spot}
use Rattle.entity_changes.specs.making.Fates.{AddsItem, ForetellsOneMore, RemovesItems, ReplacesItems}
use Rattle.entity_changes.specs.making.Places.{HasPlace}
use Rattle.entity_changes.proofs.making.Told.{deletes, inserts, links, unlinks, updates}
use Rattle.entity_changes.proofs.making.foretold.Foretold.take.Goals as goal

pub returns-in_ok-spot-in-Insert : goal.returns-in_ok-spot-in-Insert
returns-in_ok-spot-in-Insert c =
    let model = c.args.model.now in
    let old : Foretold = c.args.self.now in
    let within : c.in-Insert.set.index < length old.entities.behind.items =
    subst (λ (one : Change). HasPlace (length old.entities.behind.items) (length old.links.behind.items) one) c.in-Insert.is c.requires in
    IfOk-weaker c.add.result _ _ (λ _ told.
    subst (λ (one : Change). ForetellsOneMore model one old record { entities = c.add.new.self; links = old.links }) (sym c.in-Insert.is)
    (inserts model c.in-Insert.set old.entities c.add.new.self old.links within c.in-Insert.entity
    (subst (λ (spot : Spot). AddsItem c.in-Insert.set.index spot c.in-Insert.entity old.entities c.add.new.self) c.in_ok-spot-in-Insert.ensures told))) c.add.ensures

pub returns-in_ok-spot-in-Update : goal.returns-in_ok-spot-in-Update
returns-in_ok-spot-in-Update c =
    let model = c.args.model.now in
    let old : Foretold = c.args.self.now in
    let within : c.in-Update.set.index < length old.entities.behind.items =
    subst (λ (one : Change). HasPlace (length old.entities.behind.items) (length old.links.behind.items) one) c.in-Update.is c.requires in
    IfOk-weaker c.replace.result _ _ (λ _ told.
    subst (λ (one : Change). ForetellsOneMore model one old record { entities = c.replace.new.self; links = old.links }) (sym c.in-Update.is)
    (updates model c.in-Update.set old.entities c.replace.new.self old.links within c.in-Update.entity
    (subst (λ (spot : Spot). ReplacesItems spot c.in-Update.entity old.entities c.replace.new.self) c.in_ok-spot-in-Update.ensures told))) c.replace.ensures

pub returns-in_ok-spot-in-Delete : goal.returns-in_ok-spot-in-Delete
returns-in_ok-spot-in-Delete c =
    let model = c.args.model.now in
    let old : Foretold = c.args.self.now in
    let within : c.in-Delete.set.index < length old.entities.behind.items =
    subst (λ (one : Change). HasPlace (length old.entities.behind.items) (length old.links.behind.items) one) c.in-Delete.is c.requires in
    IfOk-weaker c.remove.result _ _ (λ _ told.
    subst (λ (one : Change). ForetellsOneMore model one old record { entities = c.remove.new.self; links = old.links }) (sym c.in-Delete.is)
    (deletes model c.in-Delete.set old.entities c.remove.new.self old.links within c.in-Delete.key
    (subst (λ (spot : Spot). RemovesItems spot old.entities c.remove.new.self) c.in_ok-spot-in-Delete.ensures told))) c.remove.ensures

pub returns-in_ok-spot-in-Link : goal.returns-in_ok-spot-in-Link
returns-in_ok-spot-in-Link c =
    let model = c.args.model.now in
    let old : Foretold = c.args.self.now in
    let within : c.in-Link.assoc.index < length old.links.behind.items =
    subst (λ (one : Change). HasPlace (length old.entities.behind.items) (length old.links.behind.items) one) c.in-Link.is c.requires in
    IfOk-weaker c.add-in-Link.result _ _ (λ _ told.
    subst (λ (one : Change). ForetellsOneMore model one old record { entities = old.entities; links = c.add-in-Link.new.self }) (sym c.in-Link.is)
    (links model c.in-Link.assoc c.in-Link.link old.links c.add-in-Link.new.self old.entities within
    (subst (λ (spot : Spot). AddsItem c.in-Link.assoc.index spot c.in-Link.link old.links c.add-in-Link.new.self) c.in_ok-spot-in-Link.ensures told))) c.add-in-Link.ensures

pub returns-in_ok-spot-in-Unlink : goal.returns-in_ok-spot-in-Unlink
returns-in_ok-spot-in-Unlink c =
    let model = c.args.model.now in
    let old : Foretold = c.args.self.now in
    let within : c.in-Unlink.assoc.index < length old.links.behind.items =
    subst (λ (one : Change). HasPlace (length old.entities.behind.items) (length old.links.behind.items) one) c.in-Unlink.is c.requires in
    IfOk-weaker c.remove-in-Unlink.result _ _ (λ _ told.
    subst (λ (one : Change). ForetellsOneMore model one old record { entities = old.entities; links = c.remove-in-Unlink.new.self }) (sym c.in-Unlink.is)
    (unlinks model c.in-Unlink.assoc c.in-Unlink.link old.links c.remove-in-Unlink.new.self old.entities within
    (subst (λ (spot : Spot). RemovesItems spot old.links c.remove-in-Unlink.new.self) c.in_ok-spot-in-Unlink.ensures told))) c.remove-in-Unlink.ensures
