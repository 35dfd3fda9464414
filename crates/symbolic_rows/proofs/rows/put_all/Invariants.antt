use Rattle.std.proofs.Common.{ℕ, ◌++◌, List, take}
use Rattle.round_trip.specs.Words.{ColId}
use Rattle.member_groups.specs.group_numbers.Numbers.{HoldsEach}
use Rattle.regions.specs.declared.pattern.Symbol.{Symbol}
use Rattle.symbolic_rows.specs.Grouped.{AreIn}
use Rattle.symbolic_rows.proofs.rows.put_all.Given as goal

-- the symbols so far stand in their columns
abbrev pub invariant-loop-cell : goal.invariant-loop-cell
invariant-loop-cell l = (before : List (ColId × Symbol)) (count : ℕ) → HoldsEach (AreIn before) count l.initial.cells.items
    → HoldsEach (AreIn (before ++ take l.cell-index l.given)) count l.cells.items
