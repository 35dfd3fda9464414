-- An entity state as a JSON tree: the lists as they stand. A printed document has them in key order.
-- Source: this project's entity documents.
use Rattle.std.specs.Prelude.{◌≡◌, ℕ, List, [], ◌∷◌, ◌++◌, map, slice_get, is_none, filter, zip, Bool, codes}
use Rattle.std.specs.Option.{option_map_or}
use Rattle.std.specs.List.{enumerate_from}
use Rattle.serde_json.specs.Data.{Data, string}
use Rattle.json_form.specs.Trees.{value_tree, key_tree, array_of, object_of}
use Rattle.round_trip.specs.Words.{SetId, TypeId, PropId, AssocId, Value, EntityModel, EntitySet, Assoc, Entity, Link, type_at, props_of, State, entities_in, links_in}

-- a property's name
abbrev pub name_of : EntityModel → PropId → List ℕ
name_of model prop = option_map_or (λ declared. declared.name) (slice_get model.props prop.index) []

-- a type's full name
abbrev pub full_name : EntityModel → TypeId → List ℕ
full_name model ty = model.namespace ++ 46 ∷ option_map_or (λ type. type.name) (type_at model ty) []

-- a property's name with the value that stands beside the property
abbrev pub named_value : EntityModel → PropId × Value → List ℕ × Data
named_value model beside = (name_of model beside.0, value_tree beside.1)

-- An entity: its type's full name, and its values by the names of their properties. Where a type holds each property once, the value
-- beside a property is the entity's value of it (`value_of`).
abbrev pub entity_tree : EntityModel → Entity → Data
entity_tree model entity = object_of ((codes "$type", string (full_name model entity.ty)) ∷ map (named_value model) (zip (props_of model entity.ty) entity.values))

-- a link: each end's key by its role
abbrev pub link_tree : Assoc → Link → Data
link_tree assoc link = object_of ((assoc.first.role, key_tree link.first) ∷ (assoc.second.role, key_tree link.second) ∷ [])

-- a set's name and entities
abbrev pub set_member : EntityModel → State → ℕ × EntitySet → List ℕ × Data
set_member model state entry = (entry.1.name, array_of (map (entity_tree model) (entities_in state (record { index = entry.0 }))))

-- an association set's name and links
abbrev pub assoc_member : State → ℕ × Assoc → List ℕ × Data
assoc_member state entry = (entry.1.set_name, array_of (map (link_tree entry.1) (links_in state (record { index = entry.0 }))))

-- whether an association has no constraint, so that its links are printed
abbrev pub is_independent : Assoc → Bool
is_independent assoc = is_none assoc.constraint

-- the members of all entity sets, in the order of the model
abbrev pub set_members : EntityModel → State → List (List ℕ × Data)
set_members model state = map (set_member model state) (enumerate_from 0 model.sets)

-- the members of all independent association sets, in the order of the model
abbrev pub assoc_members : EntityModel → State → List (List ℕ × Data)
assoc_members model state = map (assoc_member state) (filter (λ entry. is_independent entry.1) (enumerate_from 0 model.assocs))

-- a member for each entity set and each independent association set
abbrev pub state_tree : EntityModel → State → Data
state_tree model state = object_of (set_members model state ++ assoc_members model state)
