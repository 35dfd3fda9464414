use Rattle.std.proofs.Common.{◌≡◌, map, take}
use Rattle.serde_json.specs.View.{view}
use Rattle.entity_state.specs.InOrder.{lent}
use Rattle.entity_state.specs.StateTree.{link_tree}
use Rattle.entity_state.proofs.state_tree.links_tree.Given as goal

-- a tree for each link that was passed
abbrev pub invariant-loop-link : goal.invariant-loop-link
invariant-loop-link l = map view l.trees.items ≡ map (link_tree l.assoc) (lent (take l.link-index l.links))
