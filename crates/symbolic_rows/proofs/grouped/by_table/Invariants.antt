use Rattle.std.proofs.Common.{map}
use Rattle.member_groups.specs.group_numbers.Numbers.{HoldsEach}
use Rattle.symbolic_rows.specs.Grouped.{AreTo}
use Rattle.symbolic_rows.specs.Written.{in_symbols}
use Rattle.symbolic_rows.proofs.grouped.by_table.Given as goal

-- the writings so far stand at their tables
abbrev pub invariant-loop-writing : goal.invariant-loop-writing
invariant-loop-writing l = HoldsEach (AreTo (map in_symbols l.yielded)) l.count l.grouped.items
