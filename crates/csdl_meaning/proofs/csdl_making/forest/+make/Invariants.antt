use Rattle.std.proofs.Common.{◌≡◌, ◌+◌, ◌*◌, map, take}
use Rattle.csdl_meaning.specs.Meaning.{node_upto}
use Rattle.csdl_meaning.proofs.csdl_making.forest.+make.Given as goal

-- by the levels; at one level, from the nodes to each of them
abbrev pub decreases-make_node : goal.decreases-make_node
decreases-make_node l = 2 * l.levels + 1

abbrev pub decreases-nodes_at : goal.decreases-nodes_at
decreases-nodes_at l = 2 * l.levels + 2

-- the nodes of the places that were passed
abbrev pub invariant-nodes_at-loop-place : goal.invariant-nodes_at-loop-place
invariant-nodes_at-loop-place l = l.nodes ≡ map (node_upto l.model l.levels) (take l.place-index l.places)
