use Rattle.std.proofs.Common.{◌≡◌, ◌++◌, map, reverse}
use Rattle.entity_changes.specs.making.Fates.{behind_at}
use Rattle.delta_plan.proofs.running.lists.add_new_rows.Given as goal

-- with those that are left, turned round, all are there
abbrev pub invariant-loop-row : goal.invariant-loop-row
invariant-loop-row l = l.items ++ reverse (map (λ item. item.now) l.row-iterator.iter.rest.now) ≡ l.initial.items ++ reverse (behind_at l.fates l.place)
