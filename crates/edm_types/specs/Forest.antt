-- The forest of the base types: a tree for each type without a base.
-- Source: CSDL version 3, EntityType and its BaseType.
use Rattle.std.specs.Prelude.{◌≡◌, ◌↔◌, ◌<◌, ◌==◌, ℕ, List, map, AllPairs, Contains, is_none, false}
use Rattle.std.specs.Option.{option_map_or}
use Rattle.emc_base.specs.Lists.{places_of}
use Rattle.edm_types.specs.Types.{TypeId, EntityModel, EntityType, At}
use Rattle.edm_types.specs.declared.model.TypeNode.{TypeNode, out-TypeNode}
use Rattle.edm_types.specs.IsA.{IsA}

-- the type at a place
abbrev pub type_numbered : ℕ → TypeId
type_numbered place = record { index = place }

-- the types without a base type, in their order
abbrev pub root_types : EntityModel → List TypeId
root_types model = map type_numbered (places_of (λ type. is_none type.base) model.types)

-- the types whose base type is this one, in their order
abbrev pub types_based_on : EntityModel → TypeId → List TypeId
types_based_on model t = map type_numbered (places_of (λ type. option_map_or (λ base. base.index == t.index) type.base false) model.types)

-- the type of a node, and the nodes right below it
abbrev pub node_type : TypeNode → TypeId
node_type node = (out-TypeNode node).id

abbrev pub nodes_below : TypeNode → List TypeNode
nodes_below node = (out-TypeNode node).children

-- the node stands in one of the trees: as its top, or below a node that does
pub data IsNodeOf (trees : List TypeNode) : TypeNode → Type 0 where
  top : (node : TypeNode) → Contains trees node → IsNodeOf trees node
  below : (node child : TypeNode) → IsNodeOf trees node → Contains (nodes_below node) child → IsNodeOf trees child

-- a node of the type stands in the trees
abbrev pub HasNode : List TypeNode → TypeId → Type 0
HasNode trees t = (node : TypeNode) × IsNodeOf trees node × (node_type node ≡ t)

-- the node of a type: it has the type's flag, and below it stand those of the types based on it, in their order
pub record IsTypeNode (model : EntityModel) (node : TypeNode) : Type 0 where
  pub children : map node_type (nodes_below node) ≡ types_based_on model (node_type node)
  pub flag : (type : EntityType) → At model.types (node_type node).index type → (out-TypeNode node).is_abstract ≡ type.is_abstract

-- the forest of the base types: a tree for each type without a base, in their order
pub record IsForest (model : EntityModel) (trees : List TypeNode) : Type 0 where
  pub roots : map node_type trees ≡ root_types model
  pub nodes : (node : TypeNode) → IsNodeOf trees node → IsTypeNode model node

-- every type of the model stands in the trees
abbrev pub HoldsEachType : EntityModel → List TypeNode → Type 0
HoldsEachType model trees = (t : TypeId) (type : EntityType) → At model.types t.index type → HasNode trees t

-- the types of the model that are this one or derived from it, each once, in the order of the model
pub record IsSubtree (model : EntityModel) (t : TypeId) (types : List TypeId) : Type 0 where
  pub order : AllPairs (λ one next. one.index < next.index) types
  pub all : (u : TypeId) → Contains types u ↔ ((type : EntityType) × At model.types u.index type × IsA model u t)
