use Rattle.std.proofs.Common.{◌≡◌, ◌<◌, ℕ, length}
use Rattle.emc_base.specs.Lists.{At}
use Rattle.round_trip.specs.Words.{PropId, Value, value_of}
use Rattle.entity_state.proofs.entity_values.compared.has_values.Given as goal

-- as many properties as values, and those that were passed have theirs
abbrev pub invariant-loop-place : goal.invariant-loop-place
invariant-loop-place l = (length l.props ≡ length l.values)
    × ((k : ℕ) (prop : PropId) (value : Value) → At l.props k prop → At l.values k value → k < l.place → value_of l.model l.entity prop ≡ value)
