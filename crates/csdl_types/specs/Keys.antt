-- V9 and V10: which types have a key, and what its properties are.
-- Source: CSDL version 3, EntityType, BaseType, Key and Property.
use Rattle.std.specs.Prelude.{◌≡◌, ◌≢◌, ℕ, ◌≤◌, List, [], ◌∷◌, length, codes, AllPairs, Contains, Option, Some, None, MatchOption, false, ⊤}
use Rattle.json_form.specs.declared.pointer.Step.TheVariants.{Member}
use Rattle.layouts.specs.declared.fault.Fault.{Fault}
use Rattle.layouts.specs.declared.rule.Rule.{Rule}
use Rattle.layouts.specs.declared.rule.Rule.TheVariants.{TypeKey, KeyProperty}
use Rattle.layouts.specs.rule_places.Places.{IsAt, InList}
use Rattle.csdl_names.specs.declared.csdl_lists.raw.RawProp.{RawProp}
use Rattle.csdl_names.specs.declared.csdl_lists.raw.RawType.{RawType}
use Rattle.csdl_types.specs.declared.simple.Simple.{Simple}
use Rattle.csdl_types.specs.declared.simple.Simple.TheVariants.{Int16, Int32, Int64, Text}
use Rattle.csdl_types.specs.Simple.{simple_of}

-- the names of a key: one to four, each once
pub record IsKey (names : List (List ℕ)) : Type 0 where
  pub some : names ≢ []
  pub few : length names ≤ 4
  pub once : AllPairs (λ one other. one ≢ other) names

-- There is no key and no base type, or there are both, or the names are no key.
abbrev pub BreaksKey : Option (List ℕ) → Option (List (List ℕ)) → Type 0
BreaksKey None None = ⊤
BreaksKey None (Some names) = ¬ IsKey names
BreaksKey (Some base) None = ⊥
BreaksKey (Some base) (Some names) = ⊤

-- V9
abbrev pub IsKeyFault : RawType → Fault → Type 0
IsKeyFault type fault = BreaksKey type.base type.key × IsAt TypeKey (Member (codes "Key") ∷ []) fault

-- a whole number of two to eight bytes, or a text
abbrev pub IsKeySimple : Option Simple → Type 0
IsKeySimple (Some Int16) = ⊤
IsKeySimple (Some Int32) = ⊤
IsKeySimple (Some Int64) = ⊤
IsKeySimple (Some Text) = ⊤
IsKeySimple _ = ⊥

-- what a property of a key has to be
pub record CanBeKey (prop : RawProp) : Type 0 where
  pub needed : prop.nullable ≡ false
  pub simple : IsKeySimple (simple_of prop.kind)

module _ (rule : Rule) (Fails : RawProp → Type 0) where
  -- a property that is in a key fails, seen from a property of a type with this key
  abbrev pub IsFailingKeyProp : List (List ℕ) → RawProp → Fault → Type 0
  IsFailingKeyProp names prop fault = (Contains names prop.name × Fails prop) × IsAt rule [] fault

  -- the same, seen from the type
  abbrev pub HasFailingKeyProp : RawType → Fault → Type 0
  HasFailingKeyProp type fault = MatchOption type.key ⊥ (λ names. InList (codes "Property") (λ k. IsFailingKeyProp names) type.props fault)

-- V10, seen from a property of a type with this key
abbrev pub IsNoKeyPropFault : List (List ℕ) → RawProp → Fault → Type 0
IsNoKeyPropFault = IsFailingKeyProp KeyProperty (λ prop. ¬ CanBeKey prop)

-- V10, seen from the type
abbrev pub IsKeyPropFault : RawType → Fault → Type 0
IsKeyPropFault = HasFailingKeyProp KeyProperty (λ prop. ¬ CanBeKey prop)
