use Rattle.std.proofs.Common.{List, sym, subst}
use Rattle.std.proofs.lemmas.Result.{IfOk-weaker}
use Rattle.round_trip.specs.Words.{Value}
use Rattle.entity_changes.specs.declared.change.Change.{Change}
use Rattle.entity_changes.specs.touched.Seen.{AddsOnce, GathersMore, entity_at}
use Rattle.entity_changes.proofs.touched.Gathers.{gathers_entity}
use Rattle.entity_changes.proofs.touched.gathered.Gathered.add.Goals as goal

pub returns-in_ok-key-in-Insert : goal.returns-in_ok-key-in-Insert
returns-in_ok-key-in-Insert c = λ gathered.
    let model = c.args.model.now in
    let cells = c.args.cells.now in
    let old = c.args.self.now in
    let new = c.add_entity.new.self in
    let Adds : List Value → Type 0 = λ key. AddsOnce (entity_at (c.in-Insert.set, key)) (c.in-Insert.set, key) old.entities new.entities in
    IfOk-weaker c.add_entity.result _ _ (λ _ adds.
    subst (λ (one : Change). GathersMore model cells one old new) (sym c.in-Insert.is)
    (gathers_entity _ _ old new gathered _ (subst Adds c.in_ok-key-in-Insert.ensures adds) c.add_entity.ensures.links
    (λ one. ((λ is. is), (λ is. is))) (λ one none. none))) c.add_entity.ensures.entities

pub returns-in_ok-key-in-Update : goal.returns-in_ok-key-in-Update
returns-in_ok-key-in-Update c = λ gathered.
    let model = c.args.model.now in
    let cells = c.args.cells.now in
    let old = c.args.self.now in
    let new = c.add_entity-in-Update.new.self in
    let Adds : List Value → Type 0 = λ key. AddsOnce (entity_at (c.in-Update.set, key)) (c.in-Update.set, key) old.entities new.entities in
    IfOk-weaker c.add_entity-in-Update.result _ _ (λ _ adds.
    subst (λ (one : Change). GathersMore model cells one old new) (sym c.in-Update.is)
    (gathers_entity _ _ old new gathered _ (subst Adds c.in_ok-key-in-Update.ensures adds) c.add_entity-in-Update.ensures.links
    (λ one. ((λ is. is), (λ is. is))) (λ one none. none))) c.add_entity-in-Update.ensures.entities

pub returns-in_ok-key-in-Delete : goal.returns-in_ok-key-in-Delete
returns-in_ok-key-in-Delete c = λ gathered.
    let model = c.args.model.now in
    let cells = c.args.cells.now in
    let old = c.args.self.now in
    let new = c.add_entity-in-Delete.new.self in
    let Adds : List Value → Type 0 = λ key. AddsOnce (entity_at (c.in-Delete.set, key)) (c.in-Delete.set, key) old.entities new.entities in
    IfOk-weaker c.add_entity-in-Delete.result _ _ (λ _ adds.
    subst (λ (one : Change). GathersMore model cells one old new) (sym c.in-Delete.is)
    (gathers_entity _ _ old new gathered _ (subst Adds c.in_ok-key-in-Delete.ensures adds) c.add_entity-in-Delete.ensures.links
    (λ one. ((λ is. is), (λ is. is))) (λ one none. none))) c.add_entity-in-Delete.ensures.entities

pub returns-in-Link : goal.returns-in-Link
returns-in-Link c = λ gathered.
    IfOk-weaker c.add_changed.result _ _ (λ _ told.
    subst (λ (one : Change). GathersMore c.args.model.now c.args.cells.now one c.args.self.now c.add_changed.new.self) (sym c.in-Link.is) told)
    (c.add_changed.ensures gathered)

pub returns-in-Unlink : goal.returns-in-Unlink
returns-in-Unlink c = λ gathered.
    IfOk-weaker c.add_changed-in-Unlink.result _ _ (λ _ told.
    subst (λ (one : Change). GathersMore c.args.model.now c.args.cells.now one c.args.self.now c.add_changed-in-Unlink.new.self) (sym c.in-Unlink.is) told)
    (c.add_changed-in-Unlink.ensures gathered)
