-- What stands at an id: the kind of a property or a column, whether it may be null, and the key of a set.
-- Source: CSDL version 3, EntitySet, Key and Property; SSDL version 3, EntityType and Property.
use Rattle.std.specs.Prelude.{◌≡◌, List, [], slice_get, Option, option_map, false}
use Rattle.std.specs.Option.{option_map_or}
use Rattle.round_trip.specs.Words.{SetId, PropId, TableId, ColId, Kind, EntityModel, Prop, EntitySet, StoreModel, Column, At, HasBase, IsA, IsConcrete, TypeId, key_props}

-- the kind of a property; None where the model has none at this id
abbrev pub prop_kind : EntityModel → PropId → Option Kind
prop_kind model prop = option_map (λ declared. declared.kind) (slice_get model.props prop.index)

-- the columns of a table
abbrev pub columns_of : StoreModel → TableId → List Column
columns_of store table = option_map_or (λ entry. entry.cols) (slice_get store.tables table.index) []

-- the kind of a column; None where the store has none at this id
abbrev pub column_kind : StoreModel → TableId → ColId → Option Kind
column_kind store table col = option_map (λ column. column.kind) (slice_get (columns_of store table) col.index)

-- the property may not be null
abbrev pub IsNeeded : EntityModel → PropId → Type 0
IsNeeded model prop = (declared : Prop) × At model.props prop.index declared × (declared.nullable ≡ false)

-- the key of a set's entities
abbrev pub set_key : EntityModel → SetId → List PropId
set_key model set = option_map_or (λ entry. key_props model entry.element) (slice_get model.sets set.index) []

-- the type is the element type of the set
abbrev pub IsElement : EntityModel → SetId → TypeId → Type 0
IsElement model s type = (set : EntitySet) × At model.sets s.index set × (set.element ≡ type)

-- the type is the element type of the set or derived from it
abbrev pub IsUnderElement : EntityModel → SetId → TypeId → Type 0
IsUnderElement model s type = (set : EntitySet) × At model.sets s.index set × IsA model type set.element

-- some type at or below this one is concrete
abbrev pub HasConcrete : EntityModel → TypeId → Type 0
HasConcrete model type = (below : TypeId) × IsConcrete model below × IsA model below type

-- u is above t: its base type, or the base of one above
abbrev pub IsAncestor : EntityModel → TypeId → TypeId → Type 0
IsAncestor model u t = (base : TypeId) × HasBase model t base × IsA model base u
