use Rattle.std.proofs.Common.{◌≡◌}
use Rattle.round_trip.specs.Words.{key_of}
use Rattle.state_legality.specs.link_legality.Ends.{IsMarked}
use Rattle.state_legality.proofs.link_legality.Holding.{HoldsTo}
use Rattle.state_legality.proofs.link_legality.ends.keys_under.Given as goal

-- the set has the keys of the marked entities that were passed
abbrev pub invariant-loop-entity : goal.invariant-loop-entity
invariant-loop-entity l = HoldsTo (λ entity key. IsMarked l.under entity.ty × (key_of l.model entity ≡ key)) l.entities l.keys l.entity-index
