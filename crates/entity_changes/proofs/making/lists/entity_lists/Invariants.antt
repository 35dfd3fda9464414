use Rattle.std.proofs.Common.{◌≡◌, map, take}
use Rattle.std.specs.List.{enumerate_from}
use Rattle.entity_changes.specs.making.Fates.{entities_at}
use Rattle.entity_changes.proofs.making.lists.entity_lists.Given as goal

-- what becomes of each list so far
abbrev pub invariant-loop-place : goal.invariant-loop-place
invariant-loop-place l = l.made.items ≡ map (entities_at l.model l.fates) (take l.place (enumerate_from 0 l.lists))
