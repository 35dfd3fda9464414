use Rattle.std.proofs.Common.{map}
use Rattle.table_files.proofs.Sorted.{AreSortedUpTo}
use Rattle.table_files.proofs.tables_tree.sorted_tables.Given as goal

-- the tables that were passed are in key order
abbrev pub invariant-loop-i : goal.invariant-loop-i
invariant-loop-i l = AreSortedUpTo l.i l.declared l.tables (map (λ rows. map (λ row. row.now) rows.items) l.sorted.items)
