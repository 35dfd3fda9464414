-- LevelLost: items in two tables, one for those of level 1 and one for those of level 2. An item of level 3 stands in neither.
use Rattle.std.specs.Prelude.{ℕ, ℤ, pos, List, [], ◌∷◌, None, codes}
use Rattle.round_trip.specs.Words.{Whole, EntityModel, EntityType, Prop, EntitySet, StoreModel, Table, Fragment, Cond, Schema, Entity, State, place_at, FailsAt}
use Rattle.emc_base.specs.declared.value.Kind.TheVariants as kind
use Rattle.edm_types.specs.declared.mapping.CondOn.TheVariants as on
use Rattle.edm_types.specs.declared.mapping.Test.TheVariants.{Equals}
use Rattle.round_trip.specs.declared.FailKind.TheVariants as kinds
use Rattle.worked_examples.specs.Ids.{type_id, set_id, prop_id, table_id, col_id, needed, needed_column, set_of, pair_of, just, entity_of, leaf, concrete_type, model_of}
use Rattle.worked_examples.specs.people.People.{id_prop}

abbrev pub level_prop : Prop
level_prop = needed (type_id 0) (codes "Level") kind.Int32

abbrev pub item_type : EntityType
item_type = concrete_type (codes "Item") None (prop_id 0 ∷ []) (prop_id 0 ∷ prop_id 1 ∷ [])

abbrev pub items_set : EntitySet
items_set = set_of (codes "Items") (type_id 0)

abbrev pub item_model : EntityModel
item_model = model_of (item_type ∷ []) (id_prop ∷ level_prop ∷ []) (leaf (type_id 0) ∷ []) (items_set ∷ []) []

-- a table of ids
abbrev pub ids_table : List ℕ → Table
ids_table name = record { name = name; cols = needed_column (codes "Id") kind.Int32 ∷ []; key = col_id 0 ∷ [] }

abbrev pub level_one_table : Table
level_one_table = ids_table (codes "LevelOne")

abbrev pub level_two_table : Table
level_two_table = ids_table (codes "LevelTwo")

abbrev pub item_store : StoreModel
item_store = record { namespace = codes "S"; container = codes "D"; tables = level_one_table ∷ level_two_table ∷ []; keys = [] }

-- the property Level is the number
abbrev pub level_is : ℤ → Cond
level_is level = record { on = on.Prop (prop_id 1); test = Equals (Whole level) }

abbrev pub of_level : List ℕ → ℕ → ℤ → Fragment
of_level place table level = record {
  place = place;
  set = set_id 0;
  picks = just (type_id 0) ∷ [];
  table = table_id table;
  pairs = pair_of 0 0 ∷ [];
  conds = level_is level ∷ [];
}

abbrev pub level_one : Fragment
level_one = of_level (codes "/EntityContainerMapping/EntitySetMapping/0/EntityTypeMapping/0/MappingFragment/0") 0 (pos 1)

abbrev pub level_two : Fragment
level_two = of_level (codes "/EntityContainerMapping/EntitySetMapping/0/EntityTypeMapping/0/MappingFragment/1") 1 (pos 2)

abbrev pub items : Schema
items = record { model = item_model; store = item_store; mapping = record { fragments = level_one ∷ level_two ∷ []; links = [] } }

-- an item by its id and level
abbrev pub item : ℤ → ℤ → Entity
item id level = entity_of (type_id 0) (Whole id ∷ Whole level ∷ [])

abbrev pub only_items : List Entity → State
only_items entities = record { entities = entities ∷ []; links = [] }

-- an item of level 3, and no item
abbrev pub LevelIsLost : Type 0
LevelIsLost = FailsAt items kinds.Same (place_at (codes "Items") (Whole (pos 1) ∷ []) []) (only_items (item (pos 1) (pos 3) ∷ [])) (only_items [])
