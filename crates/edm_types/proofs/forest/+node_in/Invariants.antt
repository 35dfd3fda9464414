use Rattle.std.proofs.Common.{[], ◌∷◌, All, take}
use Rattle.edm_types.specs.Forest.{HasNode}
use Rattle.edm_types.proofs.forest.+node_in.Given as goal

-- each call goes to a smaller tree
abbrev pub decreases-node_in : goal.decreases-node_in
decreases-node_in l = goal.size-node_in l

-- no tree that was passed has a node of the type
abbrev pub invariant-loop-child : goal.invariant-loop-child
invariant-loop-child l = All (λ child. ¬ HasNode (child ∷ []) l.t) (take l.child-index l.child-items)
