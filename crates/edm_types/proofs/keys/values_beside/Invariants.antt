use Rattle.std.proofs.Common.{◌≡◌, map, take}
use Rattle.edm_types.specs.Entities.{value_beside}
use Rattle.edm_types.proofs.keys.values_beside.Given as goal

-- the values beside the properties that were passed
abbrev pub invariant-loop-prop : goal.invariant-loop-prop
invariant-loop-prop l = l.key ≡ map (λ prop. value_beside prop l.props l.values) (take l.prop-index l.wanted)
