-- The properties that types declare, as they are known by their names.
use Rattle.std.specs.Prelude.{◌≡◌, ◌<◌, ◌==◌, ◌&&◌, ℕ, List, Option, Some, None, cond, length, slice_get}
use Rattle.std.specs.BTreeMap.{get_by_text}
use Rattle.std.specs.Option.{option_and_then, option_or}
use Rattle.std.specs.Str.{bytes_eq}
use Rattle.round_trip.specs.Words.{EntityModel, Prop, PropId}
use Rattle.round_trip.specs.soundness.models.Inheritance.{prop_numbered}
use Rattle.schema_names.specs.declared.own_props.OwnProps.{OwnProps}
use Rattle.schema_names.specs.SchemaNames.{own_prop}

-- the property that is known of a name
abbrev pub prop_in : OwnProps → List ℕ → Option PropId
prop_in props name = get_by_text props.by_name name

-- the properties of names, with one more: that of a name which has none yet
abbrev pub noted : (List ℕ → Option PropId) → List ℕ → PropId → List ℕ → Option PropId
noted known name prop other = option_or (known other) (cond (bytes_eq other name) (Some prop) None)

-- the property that is known of a name at a type
abbrev pub prop_at : List OwnProps → ℕ → List ℕ → Option PropId
prop_at own t name = option_and_then (λ props. prop_in props name) (slice_get own t)

-- there are so many types, and none has a property
pub record HaveNoProps (many : ℕ) (own : List OwnProps) : Type 0 where
  pub count : length own ≡ many
  pub none : (t : ℕ) (name : List ℕ) → prop_at own t name ≡ None

-- the type that declares a property has it, unless it had one of this name
pub record AddsProp (place : ℕ) (prop : Prop) (before now : List OwnProps) : Type 0 where
  pub count : length now ≡ length before
  pub each : (t : ℕ) (name : List ℕ) → t < length before
      → prop_at now t name ≡ option_or (prop_at before t name) (cond ((prop.owner.index == t) && bytes_eq name prop.name) (Some (prop_numbered place)) None)

-- what is known is which property each type of the model declares
abbrev pub AreOwnProps : EntityModel → List OwnProps → Type 0
AreOwnProps model own = (t : ℕ) (name : List ℕ) → prop_at own t name ≡ own_prop model t name
