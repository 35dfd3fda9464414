-- The forest of the school: persons with the teachers below them, and lessons.
use Rattle.std.specs.Prelude.{ℕ, List, [], ◌∷◌, Bool, true, false}
use Rattle.round_trip.specs.Words.{TypeNode}
use Rattle.edm_types.specs.declared.model.TypeNode.{roll-TypeNode}
use Rattle.edm_types.specs.Forest.{type_numbered}

-- a type and the nodes below it
abbrev pub node_over : ℕ → Bool → List TypeNode → TypeNode
node_over place is_abstract children = roll-TypeNode (record { id = type_numbered place; is_abstract = is_abstract; children = children })

-- teachers stand first in the document, and below persons in the forest
abbrev pub school_forest : List TypeNode
school_forest = node_over 1 true (node_over 0 false [] ∷ []) ∷ node_over 2 false [] ∷ []
