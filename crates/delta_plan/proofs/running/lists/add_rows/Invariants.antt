use Rattle.std.proofs.Common.{◌≡◌, ◌++◌, take}
use Rattle.entity_changes.specs.making.Fates.{survivors}
use Rattle.delta_plan.specs.Running.{row_spot}
use Rattle.delta_plan.proofs.running.lists.add_rows.Given as goal

-- what becomes of those that were passed stands there
abbrev pub invariant-loop-row : goal.invariant-loop-row
invariant-loop-row l = l.items ≡ l.initial.items ++ survivors l.fates (row_spot l.store l.table) (take l.row-index l.rows)
