use Rattle.std.proofs.Common.{◌≡◌, take}
use Rattle.state_legality.specs.link_legality.Standing.{keyed}
use Rattle.state_legality.proofs.link_legality.standing.keyed.Given as goal

-- the keys of the entities that were passed
abbrev pub invariant-loop-entity : goal.invariant-loop-entity
invariant-loop-entity l = l.keys.items ≡ keyed l.model (take l.entity-index l.entities)
