use Rattle.std.proofs.Common.{◌≡◌, map, take}
use Rattle.round_trip.specs.Words.{key_of}
use Rattle.entity_state.proofs.entity_values.values.keys_of.Given as goal

-- the keys of the entities that were passed
abbrev pub invariant-loop-entity : goal.invariant-loop-entity
invariant-loop-entity l = l.keys.items ≡ map (key_of l.model) (take l.entity-index l.entities)
