use Rattle.std.proofs.Common.{◌≡◌, ◌++◌, take}
use Rattle.round_trip.specs.Words.{key_of}
use Rattle.entity_changes.specs.Spots.{key_spot}
use Rattle.entity_changes.specs.making.Fates.{survivors}
use Rattle.entity_changes.proofs.making.lists.add_entities.Given as goal

-- what becomes of those that were passed stands there
abbrev pub invariant-loop-entity : goal.invariant-loop-entity
invariant-loop-entity l = l.items ≡ l.initial.items ++ survivors l.fates (λ entity. key_spot l.set (key_of l.model entity)) (take l.entity-index l.entities)
