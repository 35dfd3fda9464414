use Rattle.std.proofs.Common.{◌≡◌, map, take}
use Rattle.forced_entities.specs.Forced.{part_beside}
use Rattle.forced_entities.proofs.members.parts_in.Given as goal

-- what is known of the properties so far has come
abbrev pub invariant-loop-prop : goal.invariant-loop-prop
invariant-loop-prop l = l.told.items ≡ map (λ p. part_beside p l.keys l.from.key) (take l.prop-index l.props)
