use Rattle.std.proofs.Common.{◌≡◌, flat_map, take}
use Rattle.population.specs.Principals.{principals}
use Rattle.supported_states.proofs.small_parts.needs.needs_at.Given as goal

-- the principals of the entities so far have come
abbrev pub invariant-loop-entity : goal.invariant-loop-entity
invariant-loop-entity l = l.needs ≡ flat_map (principals l.seat.model.now l.seat.placed.now.set) (take l.entity-index l.entity-items)
