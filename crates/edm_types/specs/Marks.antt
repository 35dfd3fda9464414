-- What a search of trees finds, and which places it marks.
use Rattle.std.specs.Prelude.{◌≡◌, ◌↔◌, ◌⊎◌, ◌<◌, ℕ, List, length, Option, Some, None, Bool, true}
use Rattle.edm_types.specs.Types.{TypeId, At}
use Rattle.edm_types.specs.declared.model.TypeNode.{TypeNode}
use Rattle.edm_types.specs.Forest.{HasNode, IsNodeOf, node_type}

-- what was found of a type: a node of it that stands in the trees, or none where none does
abbrev pub IsNodeFor : List TypeNode → TypeId → Option TypeNode → Type 0
IsNodeFor trees t None = ¬ HasNode trees t
IsNodeFor trees t (Some node) = IsNodeOf trees node × (node_type node ≡ t)

-- the marked places are those that were marked before, and those of which P holds
pub record AddsMarks (P : ℕ → Type 0) (before after : List Bool) : Type 0 where
  pub size : length after ≡ length before
  pub marked : (i : ℕ) → At after i true ↔ (At before i true ⊎ ((i < length before) × P i))
