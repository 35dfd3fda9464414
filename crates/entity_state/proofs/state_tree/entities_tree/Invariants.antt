use Rattle.std.proofs.Common.{◌≡◌, map, take}
use Rattle.serde_json.specs.View.{view}
use Rattle.entity_state.specs.InOrder.{lent}
use Rattle.entity_state.specs.StateTree.{entity_tree}
use Rattle.entity_state.proofs.state_tree.entities_tree.Given as goal

-- a tree for each entity that was passed
abbrev pub invariant-loop-entity : goal.invariant-loop-entity
invariant-loop-entity l = map view l.trees.items ≡ map (entity_tree l.model) (lent (take l.entity-index l.entities))
