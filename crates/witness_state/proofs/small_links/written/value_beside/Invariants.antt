use Rattle.std.proofs.Common.{◌≡◌}
use Rattle.round_trip.specs.Words.{value_beside}
use Rattle.witness_state.proofs.small_links.written.value_beside.Given as goal

-- the value stands beside the property in what is left
abbrev pub invariant-loop-other : goal.invariant-loop-other
invariant-loop-other l = value_beside l.prop l.other-iterator.a.rest.now l.other-iterator.b.rest.now ≡ value_beside l.prop l.props l.values
