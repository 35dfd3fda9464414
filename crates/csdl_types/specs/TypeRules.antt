-- The rules on types, on their properties and on enumeration types: V8 to V13.
use Rattle.std.specs.Prelude.{ℕ, ◌⊎◌, codes}
use Rattle.layouts.specs.declared.fault.Fault.{Fault}
use Rattle.layouts.specs.rule_places.Places.{InList}
use Rattle.csdl_names.specs.declared.csdl_lists.raw.RawModel.{RawModel}
use Rattle.csdl_names.specs.declared.csdl_lists.raw.RawType.{RawType}
use Rattle.csdl_names.specs.csdl_lists.References.{Names, base_of, names_in}
use Rattle.csdl_types.specs.Keys.{IsKeyFault, IsKeyPropFault}
use Rattle.csdl_types.specs.Inherited.{IsAncestorFault, IsInheritedNameFault}
use Rattle.csdl_types.specs.PropTypes.{IsBoundFault, IsEnumFault, IsPropTypeFault}

-- a type breaks one of the rules V9 to V13
abbrev pub IsLaterFault : Names → RawModel → ℕ → RawType → Fault → Type 0
IsLaterFault names model i type fault =
    IsKeyFault type fault
    ⊎ IsKeyPropFault type fault
    ⊎ IsInheritedNameFault (base_of names model) model.types i type fault
    ⊎ IsPropTypeFault names.enum_named type fault
    ⊎ IsBoundFault type fault

-- V9 to V13
abbrev pub BreaksLaterRules : RawModel → Fault → Type 0
BreaksLaterRules model fault =
    InList (codes "EntityType") (IsLaterFault (names_in model) model) model.types fault
    ⊎ InList (codes "EnumType") (λ i. IsEnumFault) model.enums fault

-- V8 to V13
abbrev pub BreaksTypeRules : RawModel → Fault → Type 0
BreaksTypeRules model fault =
    InList (codes "EntityType") (λ i type. IsAncestorFault (base_of (names_in model) model) i) model.types fault
    ⊎ BreaksLaterRules model fault
