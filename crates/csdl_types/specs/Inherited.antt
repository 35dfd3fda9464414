-- V8 and V11: no type is its own ancestor, and no property has the name of an inherited one.
-- Source: CSDL version 3, EntityType, BaseType, Property and NavigationProperty.
use Rattle.std.specs.Prelude.{◌≡◌, ◌⊎◌, ℕ, List, [], ◌∷◌, codes, Any, Option}
use Rattle.emc_base.specs.Lists.{At}
use Rattle.json_form.specs.declared.pointer.Step.TheVariants.{Member}
use Rattle.layouts.specs.declared.fault.Fault.{Fault}
use Rattle.layouts.specs.declared.rule.Rule.TheVariants.{Ancestors, InheritedName}
use Rattle.layouts.specs.rule_places.Places.{IsAt, InList}
use Rattle.graphs.specs.base_chains.Chains.{IsAncestor}
use Rattle.csdl_names.specs.declared.csdl_lists.raw.RawType.{RawType}

-- V8: the type is its own ancestor
abbrev pub IsAncestorFault : (ℕ → Option ℕ) → ℕ → Fault → Type 0
IsAncestorFault base i fault = IsAncestor base i i × IsAt Ancestors (Member (codes "BaseType") ∷ []) fault

-- the type has a property or a navigation property of this name
abbrev pub HasName : RawType → List ℕ → Type 0
HasName type name = Any (λ prop. prop.name ≡ name) type.props ⊎ Any (λ nav. nav.name ≡ name) type.navs

module _ (IsAbove : ℕ → Type 0) (types : List RawType) where
  -- a type that stands above has the name
  pub record IsInherited (name : List ℕ) : Type 0 where
    pub ancestor : ℕ
    pub above : IsAbove ancestor
    pub type : RawType
    pub is_type : At types ancestor type
    pub has : HasName type name

  -- a property, or a navigation property, has the name of an inherited one
  abbrev pub IsInheritedFault : List ℕ → Fault → Type 0
  IsInheritedFault name fault = IsInherited name × IsAt InheritedName (Member (codes "Name") ∷ []) fault

  -- the same, seen from the type
  abbrev pub IsInNamesFault : RawType → Fault → Type 0
  IsInNamesFault type fault =
      InList (codes "Property") (λ k prop. IsInheritedFault prop.name) type.props fault
      ⊎ InList (codes "NavigationProperty") (λ k nav. IsInheritedFault nav.name) type.navs fault

-- V11, seen from the type: above stand its ancestors
abbrev pub IsInheritedNameFault : (ℕ → Option ℕ) → List RawType → ℕ → RawType → Fault → Type 0
IsInheritedNameFault base types i = IsInNamesFault (IsAncestor base i) types
