-- Short words for the parts of small models: ids by their numbers, and what the examples share.
use Rattle.std.specs.Prelude.{ℕ, List, [], ◌∷◌, Option, None, true, false, codes}
use Rattle.round_trip.specs.Words.{SetId, TypeId, PropId, TableId, ColId, AssocId, Value, Kind, EntityModel, EntityType, Prop, TypeNode, EntitySet, Assoc, Column, Pick, Pair, Entity, Row}
use Rattle.edm_types.specs.declared.model.TypeNode.{TypeNode', end_of-TypeNode, more_of-TypeNode}

abbrev pub type_id : ℕ → TypeId
type_id n = record { index = n }

abbrev pub set_id : ℕ → SetId
set_id n = record { index = n }

abbrev pub prop_id : ℕ → PropId
prop_id n = record { index = n }

abbrev pub table_id : ℕ → TableId
table_id n = record { index = n }

abbrev pub col_id : ℕ → ColId
col_id n = record { index = n }

abbrev pub assoc_id : ℕ → AssocId
assoc_id n = record { index = n }

-- a property that can't be null, and one that can
abbrev pub needed : TypeId → List ℕ → Kind → Prop
needed owner name kind = record { owner = owner; name = name; kind = kind; nullable = false }

abbrev pub optional : TypeId → List ℕ → Kind → Prop
optional owner name kind = record { owner = owner; name = name; kind = kind; nullable = true }

-- a column that can't be null, and one that can
abbrev pub needed_column : List ℕ → Kind → Column
needed_column name kind = record { name = name; kind = kind; nullable = false }

abbrev pub optional_column : List ℕ → Kind → Column
optional_column name kind = record { name = name; kind = kind; nullable = true }

-- a set by its name and element type
abbrev pub set_of : List ℕ → TypeId → EntitySet
set_of name element = record { name = name; element = element }

-- a property by its number with a column by its number
abbrev pub pair_of : ℕ → ℕ → Pair
pair_of prop col = record { prop = prop_id prop; col = col_id col }

-- a type alone, and a type with all below it
abbrev pub just : TypeId → Pick
just ty = record { ty = ty; below = false }

abbrev pub with_below : TypeId → Pick
with_below ty = record { ty = ty; below = true }

-- an entity of a type by its values, and a row by its cells
abbrev pub entity_of : TypeId → List Value → Entity
entity_of ty values = record { ty = ty; values = values }

abbrev pub row_of : List Value → Row
row_of cells = record { cells = cells }

-- a concrete type with no type below it, and one with one such type below it
abbrev pub leaf : TypeId → TypeNode
leaf ty = TypeNode' ty false [] end_of-TypeNode

abbrev pub stem : TypeId → TypeId → TypeNode
stem ty below = TypeNode' ty false (tt ∷ []) (more_of-TypeNode (leaf below) end_of-TypeNode)

-- a concrete type by its name, base, key and properties
abbrev pub concrete_type : List ℕ → Option TypeId → List PropId → List PropId → EntityType
concrete_type name base key props = record { name = name; base = base; is_abstract = false; key = key; props = props; navs = [] }

-- a model by its types, properties, forest, sets and associations
abbrev pub model_of : List EntityType → List Prop → List TypeNode → List EntitySet → List Assoc → EntityModel
model_of types props forest sets assocs = record {
  namespace = codes "N";
  alias = None;
  container = codes "C";
  types = types;
  props = props;
  forest = forest;
  sets = sets;
  assocs = assocs;
}
