use Rattle.std.proofs.Common.{◌≡◌, ◌++◌, List, length}
use Rattle.row_changes.specs.declared.change.RowChange.{RowChange}
use Rattle.delta_plan.specs.Running.{Foretells}
use Rattle.delta_plan.proofs.running.foretold.fates_of.Given as goal

-- what the changes behind those that are left do is told
abbrev pub invariant-loop-change : goal.invariant-loop-change
invariant-loop-change l = (length l.fates.behind.items ≡ l.count) × (later : List RowChange) × (l.changes ≡ l.change-iterator.iter.rest.now ++ later)
    × Foretells l.store later l.fates
