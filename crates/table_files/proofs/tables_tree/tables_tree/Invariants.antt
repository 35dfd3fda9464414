use Rattle.std.proofs.Common.{◌≡◌, map, take}
use Rattle.std.specs.List.{enumerate_from}
use Rattle.serde_json.specs.Data.{no_members}
use Rattle.serde_json.specs.View.{members_view}
use Rattle.json_form.specs.Trees.{put_all}
use Rattle.table_files.specs.TablesTree.{table_member}
use Rattle.table_files.proofs.tables_tree.tables_tree.Given as goal

-- a member for each table that was passed
abbrev pub invariant-loop-i : goal.invariant-loop-i
invariant-loop-i l = members_view l.members.entries
    ≡ put_all no_members (map (table_member (map (λ rows. map (λ row. row.now) rows.items) l.tables)) (take l.i (enumerate_from 0 l.declared)))
