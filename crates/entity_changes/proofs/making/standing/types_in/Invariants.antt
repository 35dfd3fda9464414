use Rattle.std.proofs.Common.{take}
use Rattle.entity_changes.specs.making.Standing.{TellsTypes}
use Rattle.entity_changes.proofs.making.standing.types_in.Given as goal

-- the types of the entities in the lists that were passed are known
abbrev pub invariant-loop-place : goal.invariant-loop-place
invariant-loop-place l = TellsTypes l.model (take l.place l.lists) l.types
