-- How inherited names are found: by the places of a type's own names, which are known.
use Rattle.std.specs.Prelude.{◌≡◌, ◌⊎◌, ℕ, List, [], Contains, Option, Some}
use Rattle.emc_base.specs.Lists.{At}
use Rattle.groupings.specs.least_fault.Least.{Among}
use Rattle.csdl_names.specs.declared.csdl_lists.raw.RawType.{RawType}
use Rattle.csdl_types.specs.Inherited.{IsInherited}

-- the type has no name of its own: neither a property nor a navigation property
abbrev pub DeclaresNone : RawType → Type 0
DeclaresNone type = (type.props ≡ []) × (type.navs ≡ [])

-- the place is that of a name which the type has
abbrev pub IsPlaceOfName : (List ℕ → Option ℕ) → RawType → ℕ → Type 0
IsPlaceOfName known type place =
    Among (λ _ prop k. known prop.name ≡ Some k) type.props place
    ⊎ Among (λ _ nav k. known nav.name ≡ Some k) type.navs place

-- the item at this place has a name that a type at one of these places has
abbrev pub IsItemAbove : {X : Type 0} → (X → List ℕ) → List RawType → List ℕ → List X → ℕ → Type 0
IsItemAbove {X} name_in types places items k = (item : X) × At items k item × IsInherited (Contains places) types (name_in item)
