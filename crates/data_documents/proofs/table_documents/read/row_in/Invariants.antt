use Rattle.std.proofs.Common.{◌≡◌, map, take}
use Rattle.json_form.specs.Nodes.{part_of}
use Rattle.data_documents.specs.table_documents.Tables.{cell_in}
use Rattle.data_documents.proofs.table_documents.read.row_in.Given as goal

-- the cells of the columns that were passed
abbrev pub invariant-loop-column : goal.invariant-loop-column
invariant-loop-column l = l.cells ≡ map (cell_in (part_of l.node)) (take l.column-index l.cols)
