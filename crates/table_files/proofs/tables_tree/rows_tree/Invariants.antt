use Rattle.std.proofs.Common.{◌≡◌, map, take}
use Rattle.serde_json.specs.View.{view}
use Rattle.table_files.specs.TablesTree.{row_tree}
use Rattle.table_files.proofs.tables_tree.rows_tree.Given as goal

-- a tree for each row that was passed
abbrev pub invariant-loop-row : goal.invariant-loop-row
invariant-loop-row l = map view l.trees.items ≡ map (row_tree l.table) (map (λ row. row.now) (take l.row-index l.rows))
