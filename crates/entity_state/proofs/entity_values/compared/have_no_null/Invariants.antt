use Rattle.std.proofs.Common.{◌≢◌}
use Rattle.round_trip.specs.Words.{Null, value_of}
use Rattle.entity_state.proofs.breach_order.Turns.{EachTo}
use Rattle.entity_state.proofs.entity_values.compared.have_no_null.Given as goal

-- the values of the properties that were passed aren't null
abbrev pub invariant-loop-prop : goal.invariant-loop-prop
invariant-loop-prop l = EachTo (λ _ prop. value_of l.model l.entity prop ≢ Null) l.props l.prop-index
