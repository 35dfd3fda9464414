use Rattle.std.proofs.Common.{◌∙◌, ap}
use Rattle.serde_json.specs.Written.{compact_text, has_float}
use Rattle.texts.proofs.change_texts.Plain.{row_change_tree-plain}
use Rattle.texts.proofs.change_texts.changed_rows.row_change_json.Goals as goal

pub returns : goal.returns
returns c =
    c.in_ok-to_string.ensures.text (ap has_float c.in_ok-tree.ensures ∙ row_change_tree-plain c.args.store.now c.args.change.now)
    ∙ ap compact_text c.in_ok-tree.ensures
