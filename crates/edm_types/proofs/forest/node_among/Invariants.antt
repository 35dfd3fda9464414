use Rattle.std.proofs.Common.{[], ◌∷◌, All, take}
use Rattle.edm_types.specs.Forest.{HasNode}
use Rattle.edm_types.proofs.forest.node_among.Given as goal

-- no tree that was passed has a node of the type
abbrev pub invariant-loop-tree : goal.invariant-loop-tree
invariant-loop-tree l = All (λ tree. ¬ HasNode (tree ∷ []) l.t) (take l.tree-index l.trees)
