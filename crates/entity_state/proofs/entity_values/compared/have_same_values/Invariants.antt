use Rattle.std.proofs.Common.{◌≡◌, ◌<◌, ℕ, length}
use Rattle.emc_base.specs.Lists.{At}
use Rattle.round_trip.specs.Words.{PropId, value_of}
use Rattle.entity_state.proofs.entity_values.compared.have_same_values.Given as goal

-- as many properties, and the values of those that were passed are the same
abbrev pub invariant-loop-place : goal.invariant-loop-place
invariant-loop-place l = (length l.props ≡ length l.other_props)
    × ((k : ℕ) (prop other : PropId) → At l.props k prop → At l.other_props k other → k < l.place → value_of l.model l.one prop ≡ value_of l.model l.other other)
