use Rattle.std.proofs.Common.{◌≡◌, ◌⊎◌, take}
use Rattle.edm_types.specs.Forest.{HasNode, node_type, type_numbered}
use Rattle.edm_types.specs.Marks.{AddsMarks}
use Rattle.edm_types.proofs.forest.+mark_all.Given as goal

-- the top's place is marked, and those of the trees that were passed
abbrev pub invariant-loop-child : goal.invariant-loop-child
invariant-loop-child l = AddsMarks (λ i. (i ≡ (node_type l.tree).index) ⊎ HasNode (take l.child-index l.child-items) (type_numbered i)) l.fn.marks.items l.marks.items
