use Rattle.std.specs.Option.{option_copied}
use Rattle.case_laws.specs.candidates.Rows.{shown_rows}
use Rattle.cells.specs.Parts.{schema_in}
use Rattle.round_trip.specs.Words.{Schema}
use Rattle.keyed_rows.proofs.set_rows.AtKey.{one_table_more}
use Rattle.keyed_rows.proofs.set_rows.at_key.rows_at.Goals as goal

pub loop-place-preserved : goal.loop-place-preserved
loop-place-preserved c =
    let schema : Schema = schema_in c.args.parts.now in
    one_table_more schema c.requires.parts.sound c.args.tables.now c.requires.legal c.args.set c.args.key.now (record { index = c.loop-place.place })
    (option_copied c.in_ok-found.found) (shown_rows c.loop-place.rows.items) (shown_rows c.add_row.new.rows.items) c.loop-place.invariant c.in_ok-found.ensures
    c.in_ok-add_row.ensures
