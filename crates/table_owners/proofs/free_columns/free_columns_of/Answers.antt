use Rattle.std.proofs.Common.{List, sym, subst}
use Rattle.std.proofs.lemmas.Result.{IfOk-weaker}
use Rattle.round_trip.specs.Words.{Fragment, LinkFragment}
use Rattle.round_trip.specs.Between.{schema_of}
use Rattle.table_owners.specs.Clearing.{Clears, Each, IsNamedByEntities, IsNamedByLinks}
use Rattle.table_owners.specs.FreeColumns.{TellFree}
use Rattle.table_owners.proofs.columns.Free.{tell_free}
use Rattle.table_owners.proofs.free_columns.free_columns_of.Goals as goal

pub returns : goal.returns
returns c = λ model.
    let start = c.in_ok-free.free.items in
    let between = c.clear_entities.new.free.items in
    let free = c.clear_links.new.free.items in
    let Entities : List Fragment → Type 0 = λ fragments. Clears (Each IsNamedByEntities fragments) start between in
    let Links : List LinkFragment → Type 0 = λ fragments. Clears (Each IsNamedByLinks fragments) between free in
    IfOk-weaker c.as_lists.result _ _
    (λ lists is.
    (let schema = schema_of model c.args.store.now c.args.mapping.now in
    subst (TellFree schema) (sym is)
    (tell_free schema start between free (c.in_ok-free.ensures model) (subst Entities c.as_slice.ensures.items c.clear_entities.ensures)
    (subst Links c.as_slice-2.ensures.items c.clear_links.ensures))))
    c.as_lists.ensures
