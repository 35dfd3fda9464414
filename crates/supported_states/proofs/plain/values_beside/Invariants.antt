use Rattle.std.proofs.Common.{◌≡◌, map, take}
use Rattle.round_trip.specs.Words.{value_beside}
use Rattle.supported_states.proofs.plain.values_beside.Given as goal

-- the values beside the properties that were passed
abbrev pub invariant-loop-prop : goal.invariant-loop-prop
invariant-loop-prop l = l.key ≡ map (λ prop. value_beside prop l.props l.values) (take l.prop-index l.wanted)
