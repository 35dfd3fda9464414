use Rattle.std.proofs.Common.{All, Contains, take}
use Rattle.edm_types.specs.Forest.{type_numbered}
use Rattle.state_legality.specs.link_legality.Ends.{IsMarked}
use Rattle.state_legality.proofs.link_legality.in_order.are_linked.Given as goal

-- links have those that were passed and whose types are marked
abbrev pub invariant-loop-one : goal.invariant-loop-one
invariant-loop-one l = All (λ one. IsMarked l.under (type_numbered one.1) → Contains l.linked one.0) (take l.one-index l.standing)
