use Rattle.std.proofs.Common.{◌≡◌, ◌++◌, map, reverse}
use Rattle.entity_changes.specs.making.Fates.{behind_at}
use Rattle.entity_changes.proofs.making.lists.add_new_links.Given as goal

-- with those that are left, turned round, all are there
abbrev pub invariant-loop-link : goal.invariant-loop-link
invariant-loop-link l = l.items ++ reverse (map (λ item. item.now) l.link-iterator.iter.rest.now) ≡ l.initial.items ++ reverse (behind_at l.fates l.place)
