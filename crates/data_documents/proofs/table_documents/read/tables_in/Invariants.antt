use Rattle.std.proofs.Common.{◌≡◌, map, take}
use Rattle.json_form.specs.Nodes.{part_of}
use Rattle.data_documents.specs.table_documents.Tables.{rows_of_table}
use Rattle.data_documents.proofs.table_documents.read.tables_in.Given as goal

-- the rows of the tables that were passed
abbrev pub invariant-loop-table : goal.invariant-loop-table
invariant-loop-table l = l.tables.items ≡ map (rows_of_table (part_of l.node)) (take l.table-index l.table-items)
