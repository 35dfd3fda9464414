use Rattle.std.proofs.Common.{◌≡◌, map, take}
use Rattle.table_files.proofs.sort_entry.rows_of.Given as goal

-- the rows of the entries that were passed are lent
abbrev pub invariant-loop-entry : goal.invariant-loop-entry
invariant-loop-entry l = map (λ row. row.now) l.rows.items ≡ map (λ entry. entry.row.now) (take l.entry-index l.entries)
