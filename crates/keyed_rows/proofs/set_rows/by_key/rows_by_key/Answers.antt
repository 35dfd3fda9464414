use Rattle.std.proofs.Common.{List, length, map, subst}
use Rattle.std.specs.Global.{Vec}
use Rattle.std.proofs.lemmas.Result.{IfOk-weaker}
use Rattle.case_laws.specs.declared.candidates.placed.PlacedRow.{PlacedRow}
use Rattle.cells.specs.Parts.{schema_in}
use Rattle.round_trip.specs.Words.{Schema, Value}
use Rattle.keyed_rows.specs.row_groups.KeyGroups.{AreKeyGroups}
use Rattle.keyed_rows.specs.row_groups.Shown.{shown_group, shown_keyed}
use Rattle.keyed_rows.specs.declared.row_groups.groups.KeyGroup.{KeyGroup}
use Rattle.keyed_rows.specs.set_rows.Keyed.{AreKeyedRows}
use Rattle.keyed_rows.specs.set_rows.SetRows.{AreSetRows}
use Rattle.keyed_rows.proofs.set_rows.Groups.{lent_rows, set_rows}
use Rattle.keyed_rows.proofs.set_rows.by_key.rows_by_key.Goals as goal

pub returns : goal.returns
returns c =
    let schema : Schema = schema_in c.args.parts.now in
    let lent = c.in_ok-keyed.keyed.items in
    let keyed : List (List Value × PlacedRow) = map shown_keyed lent in
    let are = subst (AreKeyedRows schema c.args.tables.now c.args.set (length schema.store.tables)) (lent_rows lent) c.in_ok-keyed.ensures in
    let Grouped : Vec (KeyGroup PlacedRow) → Type 0 = λ groups. AreKeyGroups keyed (map shown_group groups.items) in
    let Told : Vec (KeyGroup PlacedRow) → Type 0 = λ groups. AreSetRows schema c.args.tables.now c.args.set (map shown_group groups.items) in
    IfOk-weaker c.key_groups.result Grouped Told (λ groups grouped. set_rows schema c.args.tables.now c.args.set keyed (map shown_group groups.items) grouped are)
    c.key_groups.ensures
