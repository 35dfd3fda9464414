-- Where a type declares a property first, and where the property stands that it has of a name: its own, or an inherited one.
-- Source: CSDL version 3, EntityType, BaseType and Property.
use Rattle.std.specs.Prelude.{ℕ, zero, suc, List, length, Option, None, option_map, slice_get}
use Rattle.std.specs.Option.{option_and_then, option_or}
use Rattle.groupings.specs.name_places.GivenNames.{first_place}
use Rattle.csdl_names.specs.declared.csdl_lists.raw.RawModel.{RawModel}
use Rattle.csdl_names.specs.declared.csdl_lists.raw.RawProp.{RawProp}
use Rattle.csdl_names.specs.declared.csdl_lists.raw.RawType.{RawType}
use Rattle.csdl_names.specs.csdl_lists.References.{Names, base_of}
use Rattle.csdl_names.specs.declared.lookups.PropPlace.{PropPlace}

-- the place of the first property of this name
abbrev pub place_of_prop : RawType → List ℕ → Option ℕ
place_of_prop type = first_place (λ prop. prop.name) type.props

-- the property at a place
abbrev pub prop_at : RawModel → PropPlace → Option RawProp
prop_at model found = option_and_then (λ type. slice_get type.props found.place) (slice_get model.types found.owner)

module _ (names : Names) (model : RawModel) where
  -- the property of this name that the type at a place declares
  abbrev pub own_prop : ℕ → List ℕ → Option PropPlace
  own_prop i name = option_map (λ k. record { owner = i; place = k }) (option_and_then (λ type. place_of_prop type name) (slice_get model.types i))

  -- the property of this name that a type has: the one that it declares, or else the one that its base type has; so many types are looked at
  abbrev pub prop_upto : ℕ → ℕ → List ℕ → Option PropPlace
  prop_upto zero i name = None
  prop_upto (suc n) i name = option_or (own_prop i name) (option_and_then (λ base. prop_upto n base name) (base_of names model i))

  -- the same, where all types are looked at
  abbrev pub prop_of_type : ℕ → List ℕ → Option PropPlace
  prop_of_type i name = prop_upto (length model.types) i name
