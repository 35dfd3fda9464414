use Rattle.std.proofs.Common.{take}
use Rattle.entity_changes.specs.making.Standing.{AddsTypes}
use Rattle.entity_changes.proofs.making.standing.add_types.Given as goal

-- the types of the entities that were passed are added
abbrev pub invariant-loop-entity : goal.invariant-loop-entity
invariant-loop-entity l = AddsTypes l.model l.set (take l.entity-index l.entities) l.initial.types l.types
