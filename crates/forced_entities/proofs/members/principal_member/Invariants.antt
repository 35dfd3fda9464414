use Rattle.std.proofs.Common.{◌≡◌, map, take}
use Rattle.forced_entities.specs.Forced.{part_beside}
use Rattle.forced_entities.proofs.members.principal_member.Given as goal

-- what is told of the properties so far has come
abbrev pub invariant-loop-prop : goal.invariant-loop-prop
invariant-loop-prop l = l.key ≡ map (λ p. part_beside p l.constraint.principal l.told) (take l.prop-index l.prop-items)
