use Rattle.std.proofs.Common.{◌≡◌, All, map, take}
use Rattle.table_files.specs.Entries.{HasFirstCells}
use Rattle.table_files.proofs.sort_entry.lent_entries.Given as goal

-- the rows that were passed are lent, each with its first two cells
abbrev pub invariant-loop-row : goal.invariant-loop-row
invariant-loop-row l = (map (λ entry. entry.row.now) l.entries.items ≡ take l.row-index l.rows) × All (HasFirstCells l.cols) l.entries.items
