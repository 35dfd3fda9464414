use Rattle.std.proofs.Common.{◌≡◌, ◌++◌, take}
use Rattle.supported_states.specs.small_parts.Parts.{links_lacking}
use Rattle.supported_states.proofs.small_parts.part.add_lacking.Given as goal

-- the links of the entities so far have come
abbrev pub invariant-loop-entity : goal.invariant-loop-entity
invariant-loop-entity l = l.links ≡ l.initial.links ++ links_lacking l.sought l.side.first l.side.id l.side.assoc.now (take l.entity-index l.entities)
