use Rattle.std.proofs.Common.{length, take}
use Rattle.member_groups.specs.group_numbers.Numbers.{HoldsEach}
use Rattle.symbolic_rows.specs.Grouped.{AreIn, given_by}
use Rattle.symbolic_rows.proofs.rows.row_by.Given as goal

-- what the writings so far give stands in its columns
abbrev pub invariant-loop-writing : goal.invariant-loop-writing
invariant-loop-writing l = HoldsEach (AreIn (given_by (take l.writing-index l.writings))) (length l.table.cols) l.cells.items
