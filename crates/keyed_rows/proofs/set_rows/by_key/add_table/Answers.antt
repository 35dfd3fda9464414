use Rattle.std.proofs.Common.{◌≡◌, ◌<◌, List, ◌++◌, length, map, All, true≢false, sym, ap, subst, ◌∙◌}
use Rattle.std.proofs.lemmas.Result.{IfOk-weaker}
use Rattle.emc_base.proofs.Lists.{item_at}
use Rattle.cells.specs.Parts.{schema_in}
use Rattle.round_trip.specs.Words.{ColId, Row, Schema}
use Rattle.table_files.specs.InOrder.{lent_rows}
use Rattle.keyed_rows.specs.set_rows.Keyed.{AddsRowsOf, keyed_row, shown_keyed_rows}
use Rattle.keyed_rows.specs.set_rows.Owning.{IsKeyOrder}
use Rattle.keyed_rows.proofs.set_rows.KeyOrder.{names}
use Rattle.keyed_rows.proofs.set_rows.Owners.{told_at}
use Rattle.keyed_rows.proofs.set_rows.TableRows.{adds_none, adds_rows, in_sorted, rows_apart}
use Rattle.keyed_rows.proofs.set_rows.by_key.add_table.Goals as goal

pub returns-then-not-is_owned_by : goal.returns-then-not-is_owned_by
returns-then-not-is_owned_by c =
    let schema : Schema = schema_in c.args.parts.now in
    let parts = c.requires.parts in
    let told = told_at schema c.args.parts.now.cells.now.owners parts.cells.owners c.args.table c.requires.within in
    adds_none schema parts.sound c.args.tables.now c.requires.legal c.args.set c.args.table told.0 told.1
    (λ is. true≢false (sym (c.is_owned_by.ensures.1 is) ∙ c.if-not-is_owned_by.true)) (shown_keyed_rows c.args.keyed.now.items)

pub of-requires-clause-names : goal.of-requires-clause-names
of-requires-clause-names c =
    let schema : Schema = schema_in c.args.parts.now in
    let order : List ColId = c.in_ok-order.order in
    let is = subst (IsKeyOrder schema c.args.table c.args.set) (sym c.in_ok-order.ensures) c.in_ok-key_order.ensures in
    names schema c.requires.parts.sound c.args.table c.args.set is.0 order is.1

pub of-requires-clause-apart : goal.of-requires-clause-apart
of-requires-clause-apart c =
    let schema : Schema = schema_in c.args.parts.now in
    let table = item_at schema.store.tables c.args.table.index c.requires.within in
    let order : List ColId = c.in_ok-order.order in
    let is = subst (IsKeyOrder schema c.args.table c.args.set) (sym c.in_ok-order.ensures) c.in_ok-key_order.ensures in
    rows_apart schema c.requires.parts.sound c.args.tables.now c.requires.legal c.args.set c.args.table order is table.0 table.1

pub add_rows-requires : goal.add_rows-requires
add_rows-requires c =
    let schema : Schema = schema_in c.args.parts.now in
    let table = item_at schema.store.tables c.args.table.index c.requires.within in
    let order : List ColId = c.in_ok-order.order in
    let sorted : List Row = lent_rows c.in_ok-rows.rows in
    let is = subst (IsKeyOrder schema c.args.table c.args.set) (sym c.in_ok-order.ensures) c.in_ok-key_order.ensures in
    let Fits : List ColId → Type 0 = λ cols. All (λ row. All (λ col. col.index < length row.cells) cols) sorted in
    subst Fits (sym c.as_slice.ensures.items)
    (in_sorted schema c.requires.parts.sound c.args.tables.now c.requires.legal c.args.set c.args.table order is table.0 table.1 sorted c.in_ok-rows.ensures.same
    c.in_ok-rows.ensures.rising)

pub returns : goal.returns
returns c =
    let schema : Schema = schema_in c.args.parts.now in
    let table = item_at schema.store.tables c.args.table.index c.requires.within in
    let order : List ColId = c.in_ok-order.order in
    let sorted : List Row = lent_rows c.in_ok-rows.rows in
    let is = subst (IsKeyOrder schema c.args.table c.args.set) (sym c.in_ok-order.ensures) c.in_ok-key_order.ensures in
    let before = shown_keyed_rows c.args.keyed.now.items in
    let after = shown_keyed_rows c.add_rows.new.keyed.items in
    let adds = adds_rows schema c.requires.parts.sound c.args.tables.now c.requires.legal c.args.set c.args.table order is table.0 table.1 sorted c.in_ok-rows.ensures.same
    c.in_ok-rows.ensures.rising before after in
    IfOk-weaker c.add_rows.result (λ _. after ≡ before ++ map (keyed_row c.args.table c.as_slice.result.now) sorted)
    (λ _. AddsRowsOf schema c.args.tables.now c.args.set c.args.table before after)
    (λ _ are. adds (are ∙ ap (λ cols. before ++ map (keyed_row c.args.table cols) sorted) c.as_slice.ensures.items)) c.add_rows.ensures
