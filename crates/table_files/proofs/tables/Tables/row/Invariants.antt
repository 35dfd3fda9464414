use Rattle.std.proofs.Common.{take, All}
use Rattle.table_files.specs.Lists.{HasKey}
use Rattle.table_files.proofs.tables.Tables.row.Given as goal

-- no row that was passed has the key
abbrev pub invariant-loop-row : goal.invariant-loop-row
invariant-loop-row l = All (λ row. ¬ HasKey l.store l.fn.table l.key row) (take l.row-index l.rows)
