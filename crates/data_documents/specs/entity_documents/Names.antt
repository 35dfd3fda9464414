-- What the names stand for that an entity document uses.
-- Source: CSDL version 3, EntityType, Property, EntitySet, AssociationSet and the End of an Association.
use Rattle.std.specs.Prelude.{ℕ, List, Option, Some, None, if◌then◌else◌, option_and_then, option_map, slice_get, codes}
use Rattle.std.specs.Str.{bytes_eq}
use Rattle.serde_json.specs.Data.{Data}
use Rattle.json_form.specs.from_nodes.Reading.{optional_text_at}
use Rattle.groupings.specs.name_places.GivenNames.{first_place}
use Rattle.round_trip.specs.Words.{EntityModel, EntityType, Assoc, TypeId, PropId, AssocId, type_at, props_of}
use Rattle.edm_types.specs.Forest.{type_numbered}
use Rattle.entity_state.specs.StateTree.{is_independent, name_of}
use Rattle.schema_names.specs.SchemaNames.{association_set_named, type_named}

-- the name of the member that tells the type of an entity
abbrev pub type_member : List ℕ
type_member = codes "$type"

-- the type that an entity object tells: its member `$type` names it
abbrev pub type_in : EntityModel → Data → Option TypeId
type_in model d = option_map type_numbered (option_and_then (type_named model) (optional_text_at type_member d))

-- where the property of this name stands among those of a type, inherited ones included; the first, where names stand twice
abbrev pub place_among : EntityModel → List ℕ → EntityType → Option ℕ
place_among model name type = first_place (name_of model) type.props name

-- the property of this name that a type has
abbrev pub prop_named : EntityModel → TypeId → List ℕ → Option PropId
prop_named model ty name = option_and_then (slice_get (props_of model ty)) (option_and_then (place_among model name) (type_at model ty))

-- the association, where it is independent: only then its links are stored
abbrev pub if_independent : Assoc → Option Assoc
if_independent assoc = if is_independent assoc then Some assoc else None

-- the independent association of an id
abbrev pub independent_at : EntityModel → AssocId → Option Assoc
independent_at model id = option_and_then if_independent (slice_get model.assocs id.index)

-- the association set at a place
abbrev pub assoc_numbered : ℕ → AssocId
assoc_numbered place = record { index = place }

-- the independent association whose set has this name
abbrev pub independent_named : EntityModel → List ℕ → Option Assoc
independent_named model name = option_and_then (λ place. independent_at model (assoc_numbered place)) (association_set_named model name)

-- the type at the end of an association that has this role; at the first, where both have it
abbrev pub role_type : Assoc → List ℕ → Option TypeId
role_type assoc role = if bytes_eq role assoc.first.role then Some assoc.first.ty else (if bytes_eq role assoc.second.role then Some assoc.second.ty else None)
