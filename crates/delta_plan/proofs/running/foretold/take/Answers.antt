use Rattle.std.proofs.Common.{◌<◌, length, sym, subst}
use Rattle.std.proofs.lemmas.Result.{IfOk-weaker}
use Rattle.round_trip.specs.Words.{Row}
use Rattle.row_changes.specs.declared.change.RowChange.{RowChange}
use Rattle.entity_changes.specs.declared.making.fates.Fates.{Fates}
use Rattle.entity_changes.specs.Spots.{Spot}
use Rattle.entity_changes.specs.making.Fates.{AddsItem, RemovesItems, ReplacesItems}
use Rattle.delta_plan.specs.Running.{ForetellsOneMore, IsOfTable}
use Rattle.delta_plan.proofs.running.Told.{deletes, inserts, updates}
use Rattle.delta_plan.proofs.running.foretold.take.Goals as goal

pub returns-in_ok-spot-in-Insert : goal.returns-in_ok-spot-in-Insert
returns-in_ok-spot-in-Insert c =
    let store = c.args.store.now in
    let old : Fates Row = c.args.fates.now in
    let within : c.in-Insert.table.index < length old.behind.items =
    subst (λ (one : RowChange). IsOfTable (length old.behind.items) one) c.in-Insert.is c.requires in
    IfOk-weaker c.add.result _ _ (λ _ told.
    subst (λ (one : RowChange). ForetellsOneMore store one old c.add.new.self) (sym c.in-Insert.is)
    (inserts store c.in-Insert.table old c.add.new.self within c.in-Insert.row
    (subst (λ (spot : Spot). AddsItem c.in-Insert.table.index spot c.in-Insert.row old c.add.new.self) c.in_ok-spot-in-Insert.ensures told))) c.add.ensures

pub returns-in_ok-spot-in-Update : goal.returns-in_ok-spot-in-Update
returns-in_ok-spot-in-Update c =
    let store = c.args.store.now in
    let old : Fates Row = c.args.fates.now in
    let within : c.in-Update.table.index < length old.behind.items =
    subst (λ (one : RowChange). IsOfTable (length old.behind.items) one) c.in-Update.is c.requires in
    IfOk-weaker c.replace.result _ _ (λ _ told.
    subst (λ (one : RowChange). ForetellsOneMore store one old c.replace.new.self) (sym c.in-Update.is)
    (updates store c.in-Update.table old c.replace.new.self within c.in-Update.row
    (subst (λ (spot : Spot). ReplacesItems spot c.in-Update.row old c.replace.new.self) c.in_ok-spot-in-Update.ensures told))) c.replace.ensures

pub returns-in_ok-spot-in-Delete : goal.returns-in_ok-spot-in-Delete
returns-in_ok-spot-in-Delete c =
    let store = c.args.store.now in
    let old : Fates Row = c.args.fates.now in
    let within : c.in-Delete.table.index < length old.behind.items =
    subst (λ (one : RowChange). IsOfTable (length old.behind.items) one) c.in-Delete.is c.requires in
    IfOk-weaker c.remove.result _ _ (λ _ told.
    subst (λ (one : RowChange). ForetellsOneMore store one old c.remove.new.self) (sym c.in-Delete.is)
    (deletes store c.in-Delete.table old c.remove.new.self within c.in-Delete.key
    (subst (λ (spot : Spot). RemovesItems spot old c.remove.new.self) c.in_ok-spot-in-Delete.ensures told))) c.remove.ensures
