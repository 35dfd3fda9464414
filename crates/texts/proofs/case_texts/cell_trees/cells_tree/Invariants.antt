use Rattle.std.proofs.Common.{◌≡◌, map, zip}
use Rattle.serde_json.specs.Data.{no_members}
use Rattle.serde_json.specs.View.{members_view}
use Rattle.json_form.specs.Trees.{put_all}
use Rattle.texts.specs.case_texts.CaseTree.{column_member}
use Rattle.texts.proofs.case_texts.cell_trees.cells_tree.Given as goal

-- with those that are left all members come
abbrev pub invariant-loop-column : goal.invariant-loop-column
invariant-loop-column l = put_all (members_view l.members.entries) (map (column_member l.model) (zip l.column-iterator.a.rest.now l.column-iterator.b.rest.now))
    ≡ put_all no_members (map (column_member l.model) (zip l.columns l.cells))
