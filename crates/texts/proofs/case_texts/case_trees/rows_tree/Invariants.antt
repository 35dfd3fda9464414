use Rattle.std.proofs.Common.{◌≡◌, map, take}
use Rattle.serde_json.specs.Data.{no_members}
use Rattle.serde_json.specs.View.{members_view}
use Rattle.json_form.specs.Trees.{put_all}
use Rattle.texts.specs.case_texts.CaseTree.{row_member}
use Rattle.texts.proofs.case_texts.case_trees.rows_tree.Given as goal

-- a member for each row that was passed
abbrev pub invariant-loop-row : goal.invariant-loop-row
invariant-loop-row l = members_view l.members.entries ≡ put_all no_members (map (row_member l.model l.store) (take l.row-index l.rows))
