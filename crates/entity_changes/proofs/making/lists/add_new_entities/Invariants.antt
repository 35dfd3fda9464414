use Rattle.std.proofs.Common.{◌≡◌, ◌++◌, map, reverse}
use Rattle.entity_changes.specs.making.Fates.{behind_at}
use Rattle.entity_changes.proofs.making.lists.add_new_entities.Given as goal

-- with those that are left, turned round, all are there
abbrev pub invariant-loop-entity : goal.invariant-loop-entity
invariant-loop-entity l = l.items ++ reverse (map (λ item. item.now) l.entity-iterator.iter.rest.now) ≡ l.initial.items ++ reverse (behind_at l.fates l.place)
