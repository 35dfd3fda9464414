use Rattle.std.proofs.Common.{◌≡◌}
use Rattle.round_trip.specs.Words.{values_of}
use Rattle.state_legality.proofs.link_legality.Holding.{HoldsTo}
use Rattle.state_legality.proofs.link_legality.principals.held_values.Given as goal

-- the set has just what the entities that were passed have
abbrev pub invariant-loop-entity : goal.invariant-loop-entity
invariant-loop-entity l = HoldsTo (λ entity values. values_of l.model entity l.props ≡ values) l.entities l.held l.entity-index
