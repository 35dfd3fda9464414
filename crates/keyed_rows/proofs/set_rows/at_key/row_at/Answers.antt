use Rattle.std.proofs.Common.{true≢false, sym, ◌∙◌}
use Rattle.std.specs.Option.{option_copied}
use Rattle.emc_base.proofs.Lists.{item_at}
use Rattle.cells.specs.Parts.{schema_in}
use Rattle.round_trip.specs.Words.{Schema}
use Rattle.keyed_rows.proofs.set_rows.AtKey.{first_row, no_row}
use Rattle.keyed_rows.proofs.set_rows.Owners.{told_at}
use Rattle.keyed_rows.proofs.set_rows.at_key.row_at.Goals as goal

pub returns-then-not-is_owned_by : goal.returns-then-not-is_owned_by
returns-then-not-is_owned_by c =
    let schema : Schema = schema_in c.args.parts.now in
    let parts = c.requires.parts in
    let told = told_at schema c.args.parts.now.cells.now.owners parts.cells.owners c.args.table c.requires.within in
    no_row schema parts.sound c.args.tables.now c.requires.legal c.args.set c.args.key.now c.args.table told.0 told.1
    (λ is. true≢false (sym (c.is_owned_by.ensures.1 is) ∙ c.if-not-is_owned_by.true))

pub returns : goal.returns
returns c =
    let schema : Schema = schema_in c.args.parts.now in
    let table = item_at schema.store.tables c.args.table.index c.requires.within in
    first_row schema c.requires.parts.sound c.args.tables.now c.requires.legal c.args.set c.args.key.now c.args.table table.0 table.1 c.in_ok-own.own
    c.in_ok-own.ensures (option_copied c.row.result) c.row.ensures
