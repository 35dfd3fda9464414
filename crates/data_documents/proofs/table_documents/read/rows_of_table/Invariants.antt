use Rattle.std.proofs.Common.{◌≡◌, map, take}
use Rattle.serde_json.specs.View.{view}
use Rattle.data_documents.specs.table_documents.Tables.{row_in}
use Rattle.data_documents.proofs.table_documents.read.rows_of_table.Given as goal

-- the items that were passed, as rows
abbrev pub invariant-loop-item : goal.invariant-loop-item
invariant-loop-item l = l.rows ≡ map (λ item. row_in l.table.cols (view item)) (take l.item-index l.item-items)
