-- The entities, keys and links that nodes without faults of shape hold, and the state that a document holds.
-- Source: CSDL version 3, EntityType, Key, Property, EntitySet and AssociationSet; RFC 8259.
use Rattle.std.specs.Prelude.{ℕ, List, [], map, option_and_then, unwrap_or, slice_get, if◌then◌else◌}
use Rattle.std.specs.List.{enumerate_from}
use Rattle.serde_json.specs.Data.{Data}
use Rattle.serde_json.specs.Find.{get}
use Rattle.json_form.specs.from_nodes.Reading.{items_at, object_at}
use Rattle.json_form.specs.TreeParts.{items_in}
use Rattle.round_trip.specs.Words.{EntityModel, EntitySet, Assoc, Entity, Link, State, TypeId, PropId, Value, Null, props_of, key_props}
use Rattle.edm_types.specs.Forest.{type_numbered}
use Rattle.entity_state.specs.StateTree.{is_independent, name_of}
use Rattle.data_documents.specs.entity_documents.Names.{type_in}
use Rattle.data_documents.specs.entity_documents.Shapes.{value_for}

-- the value of an entity object's member for a property; null where it gives none
abbrev pub value_at : EntityModel → Data → PropId → Value
value_at model d prop = unwrap_or (option_and_then (value_for model prop) (get (name_of model prop) d)) Null

-- an entity: the type that the object tells, and a value for each of its properties
abbrev pub entity_of : EntityModel → TypeId → Data → Entity
entity_of model ty d = record { ty = ty; values = map (value_at model d) (props_of model ty) }

abbrev pub entity_in : EntityModel → Data → Entity
entity_in model d = entity_of model (unwrap_or (type_in model d) (type_numbered 0)) d

-- the value of the item beside a property of a key; null where there is none
abbrev pub part_at : EntityModel → Data → ℕ × PropId → Value
part_at model d entry = unwrap_or (option_and_then (value_for model entry.1) (slice_get (items_in d) entry.0)) Null

-- a key of the type: a value for each property of its key
abbrev pub key_in : EntityModel → TypeId → Data → List Value
key_in model ty d = map (part_at model d) (enumerate_from 0 (key_props model ty))

-- a link: the key of the entity at each end
abbrev pub link_in : EntityModel → Assoc → Data → Link
link_in model assoc d = record { first = key_in model assoc.first.ty (object_at assoc.first.role d); second = key_in model assoc.second.ty (object_at assoc.second.role d) }

-- the entities of a set: the items of its member, and none where it has no member
abbrev pub entities_of : EntityModel → Data → EntitySet → List Entity
entities_of model d set = map (entity_in model) (items_at set.name d)

-- the links of an association set, which has none of its own where there is a constraint
abbrev pub links_of : EntityModel → Data → Assoc → List Link
links_of model d assoc = if is_independent assoc then map (link_in model assoc) (items_at assoc.set_name d) else []

-- the state: entities for each set, links for each association set
abbrev pub state_in : EntityModel → Data → State
state_in model d = record { entities = map (entities_of model d) model.sets; links = map (links_of model d) model.assocs }
