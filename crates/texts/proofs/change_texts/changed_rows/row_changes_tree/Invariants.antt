use Rattle.std.proofs.Common.{◌≡◌, map, take}
use Rattle.serde_json.specs.View.{view}
use Rattle.texts.specs.change_texts.Texts.{row_change_tree}
use Rattle.texts.proofs.change_texts.changed_rows.row_changes_tree.Given as goal

-- a tree for each change that was passed
abbrev pub invariant-loop-change : goal.invariant-loop-change
invariant-loop-change l = map view l.trees.items ≡ map (row_change_tree l.store) (take l.change-index l.changes)
