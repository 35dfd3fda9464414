-- What the names stand for that documents over a schema use: places in the lists of its entity model and its store.
-- Source: CSDL version 3, Namespace, Alias and the names of types, properties, sets and association sets; SSDL version 3, the names of
-- entity sets and properties.
use Rattle.std.specs.Prelude.{◌≡◌, ℕ, List, Any, Bool, false, Option, Some, None, if◌then◌else◌, MatchOption, find, slice_get}
use Rattle.std.specs.Option.{option_and_then, option_map_or, option_or}
use Rattle.std.specs.Str.{bytes_eq}
use Rattle.round_trip.specs.Words.{EntityModel, Assoc, StoreModel, Column, Table, PropId, At, props_of}
use Rattle.edm_types.specs.Forest.{type_numbered}
use Rattle.round_trip.specs.soundness.models.Inheritance.{declared_props}
use Rattle.groupings.specs.name_places.GivenNames.{first_place}
use Rattle.groupings.specs.name_places.Fronts.{rest_of}
use Rattle.schema_names.specs.declared.ends.WhichEnd.{WhichEnd}
use Rattle.schema_names.specs.declared.ends.WhichEnd.TheVariants.{First, Second}

-- the name that a reference gives: it follows the Namespace, or else the Alias, and a dot
abbrev pub local_name : EntityModel → List ℕ → Option (List ℕ)
local_name model text = option_or (rest_of model.namespace text) (option_and_then (λ alias. rest_of alias text) model.alias)

-- the entity type that a reference names
abbrev pub type_named : EntityModel → List ℕ → Option ℕ
type_named model text = option_and_then (first_place (λ type. type.name) model.types) (local_name model text)

-- the entity set of a name
abbrev pub set_named : EntityModel → List ℕ → Option ℕ
set_named model = first_place (λ set. set.name) model.sets

-- the association set of a name
abbrev pub association_set_named : EntityModel → List ℕ → Option ℕ
association_set_named model = first_place (λ assoc. assoc.set_name) model.assocs

-- an association set of the model is of the association that a reference names
abbrev pub NamesAssociation : EntityModel → List ℕ → Type 0
NamesAssociation model text = MatchOption (local_name model text) ⊥ (λ name. Any (λ assoc. assoc.assoc_name ≡ name) model.assocs)

-- the association set at a place is of the association that a reference names
abbrev pub IsOfAssociation : EntityModel → ℕ → List ℕ → Type 0
IsOfAssociation model place text = (assoc : Assoc) × At model.assocs place assoc × (local_name model text ≡ Some assoc.assoc_name)

-- the end of an association that has a role; the first where both have it
abbrev pub end_of_role : Assoc → List ℕ → Option WhichEnd
end_of_role assoc role = if bytes_eq role assoc.first.role then Some First else (if bytes_eq role assoc.second.role then Some Second else None)

-- the end of the association set at a place that has a role
abbrev pub end_named : EntityModel → ℕ → List ℕ → Option WhichEnd
end_named model place role = option_and_then (λ assoc. end_of_role assoc role) (slice_get model.assocs place)

-- the table of a name
abbrev pub table_named : StoreModel → List ℕ → Option ℕ
table_named store = first_place (λ table. table.name) store.tables

-- the column of a name in the table at a place
abbrev pub column_named : StoreModel → ℕ → List ℕ → Option ℕ
column_named store t name = option_and_then (λ table. first_place (λ col. col.name) table.cols name) (slice_get store.tables t)

-- the column at a place has this name
abbrev pub IsColumnAt : Table → List ℕ → ℕ → Type 0
IsColumnAt table name place = (col : Column) × At table.cols place col × (name ≡ col.name)

-- the property has this name
abbrev pub has_name : EntityModel → List ℕ → PropId → Bool
has_name model name prop = option_map_or (λ declared. bytes_eq name declared.name) (slice_get model.props prop.index) false

-- the property of this name that the type at a place has, its own or an inherited one: the first of the type's properties with the name
abbrev pub prop_named : EntityModel → ℕ → List ℕ → Option PropId
prop_named model t name = find (has_name model name) (props_of model (type_numbered t))

-- the property of this name that the type at a place declares: the first of those that it declares
abbrev pub own_prop : EntityModel → ℕ → List ℕ → Option PropId
own_prop model t name = option_and_then (λ type. find (has_name model name) (declared_props model (type_numbered t))) (slice_get model.types t)
