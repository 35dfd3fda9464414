use Rattle.std.proofs.Common.{◌≡◌, take}
use Rattle.round_trip.specs.Words.{values_of}
use Rattle.entity_state.proofs.entity_values.values.values_of.Given as goal

-- the values of the properties that were passed
abbrev pub invariant-loop-prop : goal.invariant-loop-prop
invariant-loop-prop l = l.values ≡ values_of l.model l.entity (take l.prop-index l.props)
