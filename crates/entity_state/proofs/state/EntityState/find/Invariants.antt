use Rattle.std.proofs.Common.{take, All}
use Rattle.entity_state.specs.Lists.{HasKey}
use Rattle.entity_state.proofs.state.EntityState.find.Given as goal

-- no entity that was passed has the key
abbrev pub invariant-loop-entity : goal.invariant-loop-entity
invariant-loop-entity l = All (λ entity. ¬ HasKey l.model l.key entity) (take l.entity-index l.entities)
