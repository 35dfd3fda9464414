use Rattle.std.proofs.Common.{◌∙◌, sym, ap}
use Rattle.serde_json.specs.Written.{compact_text, has_float}
use Rattle.table_files.proofs.RowTree.{row_tree-plain}
use Rattle.texts.specs.command_texts.Texts.{row_or_null}
use Rattle.texts.proofs.command_texts.data.row_or_null.Goals as goal

pub returns-in_ok-to_string-in-Some : goal.returns-in_ok-to_string-in-Some
returns-in_ok-to_string-in-Some c =
    c.in_ok-to_string-in-Some.ensures.text (ap has_float c.in_ok-row_tree-in-Some.ensures ∙ row_tree-plain c.args.table.now c.in-Some.row)
    ∙ ap compact_text c.in_ok-row_tree-in-Some.ensures ∙ ap (row_or_null c.args.table.now) (sym c.in-Some.is)
