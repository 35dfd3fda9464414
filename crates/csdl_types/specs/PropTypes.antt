-- V12 and V13: the types of properties, the numbers of enumerations, and bounds.
-- Source: CSDL version 3, Property, MaxLength, EnumType, UnderlyingType and Member.
use Rattle.std.specs.Prelude.{◌≡◌, ◌⊎◌, ℕ, ℤ, ◌≤ℤ◌, pos, List, [], ◌∷◌, codes, Option, Some, None, MatchOption, ⊤}
use Rattle.emc_base.specs.Domain.{InDomain}
use Rattle.emc_base.specs.declared.value.Under.{Under}
use Rattle.emc_base.specs.declared.value.Value.TheVariants.{Whole}
use Rattle.json_form.specs.declared.pointer.Step.TheVariants.{Member}
use Rattle.layouts.specs.declared.fault.Fault.{Fault}
use Rattle.layouts.specs.declared.rule.Rule.TheVariants.{PropertyType, Bound}
use Rattle.layouts.specs.rule_places.Places.{IsAt, InList}
use Rattle.round_trip.specs.soundness.Kinds.{largest_bound, under_kind}
use Rattle.csdl_names.specs.declared.csdl_lists.raw.RawBound.{RawBound}
use Rattle.csdl_names.specs.declared.csdl_lists.raw.RawBound.TheVariants.{Absent, Max, Number}
use Rattle.csdl_names.specs.declared.csdl_lists.raw.RawEnum.{RawEnum}
use Rattle.csdl_names.specs.declared.csdl_lists.raw.RawProp.{RawProp}
use Rattle.csdl_names.specs.declared.csdl_lists.raw.RawType.{RawType}
use Rattle.csdl_types.specs.declared.simple.Simple.{Simple}
use Rattle.csdl_types.specs.declared.simple.Simple.TheVariants.{Text, Binary}
use Rattle.csdl_types.specs.Numbers.{numbers_of, under_of}
use Rattle.csdl_types.specs.Simple.{simple_of}

-- a property's Type is neither a simple type nor an enumeration type of the schema
pub record HasNoType (enum_named : List ℕ → Option ℕ) (prop : RawProp) : Type 0 where
  pub simple : simple_of prop.kind ≡ None
  pub enum : enum_named prop.kind ≡ None

-- V12, seen from the property
abbrev pub IsNoTypeFault : (List ℕ → Option ℕ) → RawProp → Fault → Type 0
IsNoTypeFault enum_named prop fault = HasNoType enum_named prop × IsAt PropertyType (Member (codes "Type") ∷ []) fault

-- V12, seen from the type
abbrev pub IsPropTypeFault : (List ℕ → Option ℕ) → RawType → Fault → Type 0
IsPropTypeFault enum_named type = InList (codes "Property") (λ k. IsNoTypeFault enum_named) type.props

-- the number lies outside of the underlying type
abbrev pub IsOutside : Under → ℤ → Type 0
IsOutside under number = ¬ InDomain (Whole number) (under_kind under)

-- no type that an enumeration may have is named as its underlying one
abbrev pub IsUnderFault : RawEnum → Fault → Type 0
IsUnderFault enum fault = (under_of enum ≡ None) × IsAt PropertyType (Member (codes "UnderlyingType") ∷ []) fault

-- an enumeration has no members
abbrev pub IsWithoutMembersFault : RawEnum → Fault → Type 0
IsWithoutMembersFault enum fault = (enum.members ≡ []) × IsAt PropertyType (Member (codes "Member") ∷ []) fault

-- a member's number lies outside of the underlying type, seen from the member
abbrev pub IsNumberFault : Under → ℤ → Fault → Type 0
IsNumberFault under number fault = IsOutside under number × IsAt PropertyType [] fault

-- the same, seen from the enumeration type; where it has no underlying type, none lies outside
abbrev pub IsMemberFault : RawEnum → Fault → Type 0
IsMemberFault enum fault = MatchOption (under_of enum) ⊥ (λ under. InList (codes "Member") (λ k. IsNumberFault under) (numbers_of enum) fault)

-- V12, seen from the enumeration type: its underlying type, its list of members, or a member
abbrev pub IsEnumFault : RawEnum → Fault → Type 0
IsEnumFault enum fault = IsUnderFault enum fault ⊎ IsWithoutMembersFault enum fault ⊎ IsMemberFault enum fault

-- a simple type whose values have a length
abbrev pub HasLength : Option Simple → Type 0
HasLength (Some Text) = ⊤
HasLength (Some Binary) = ⊤
HasLength _ = ⊥

-- a number is no bound of a length: it isn't 1 to the largest
abbrev pub IsNoBound : ℤ → Type 0
IsNoBound number = ¬ ((pos 1 ≤ℤ number) × (number ≤ℤ pos largest_bound))

-- the MaxLength stands at a type whose values have no length, or is no bound
abbrev pub BreaksBound : Type 0 → RawBound → Type 0
BreaksBound HasOne Absent = ⊥
BreaksBound HasOne Max = ¬ HasOne
BreaksBound HasOne (Number number) = (¬ HasOne) ⊎ IsNoBound number

-- V13, seen from the property
abbrev pub IsPropBoundFault : RawProp → Fault → Type 0
IsPropBoundFault prop fault = BreaksBound (HasLength (simple_of prop.kind)) prop.bound × IsAt Bound (Member (codes "MaxLength") ∷ []) fault

-- V13, seen from the type
abbrev pub IsBoundFault : RawType → Fault → Type 0
IsBoundFault type = InList (codes "Property") (λ k. IsPropBoundFault) type.props
