-- The simple types by their names, and what the Type of a property names.
-- Source: CSDL version 3, the primitive types of the Edm namespace, as far as the profile has them.
use Rattle.std.specs.Prelude.{ℕ, List, Option, Some, None, option_map, unwrap_or, if◌then◌else◌, codes}
use Rattle.std.specs.Option.{option_or}
use Rattle.std.specs.Str.{bytes_eq}
use Rattle.csdl_names.specs.csdl_lists.References.{Names}
use Rattle.groupings.specs.name_places.Fronts.{rest_after}
use Rattle.csdl_types.specs.declared.simple.PropType.{PropType}
use Rattle.csdl_types.specs.declared.simple.PropType.TheVariants as named
use Rattle.csdl_types.specs.declared.simple.Simple.{Simple}
use Rattle.csdl_types.specs.declared.simple.Simple.TheVariants.{Byte, Int16, Int32, Int64, Boolean, Text, Binary}

-- the simple type of a name
abbrev pub simple_named : List ℕ → Option Simple
simple_named name =
    if bytes_eq name (codes "Byte") then Some Byte else
    if bytes_eq name (codes "Int16") then Some Int16 else
    if bytes_eq name (codes "Int32") then Some Int32 else
    if bytes_eq name (codes "Int64") then Some Int64 else
    if bytes_eq name (codes "Boolean") then Some Boolean else
    if bytes_eq name (codes "String") then Some Text else
    if bytes_eq name (codes "Binary") then Some Binary else None

-- the simple type that a property's Type names: with or without `Edm.`
abbrev pub simple_of : List ℕ → Option Simple
simple_of text = simple_named (unwrap_or (rest_after (codes "Edm.") text) text)

-- what the Type of a property names: a simple type, or else the enumeration type at a place
abbrev pub prop_type : (List ℕ → Option ℕ) → List ℕ → Option PropType
prop_type enum_named text = option_or (option_map named.Simple (simple_of text)) (option_map named.Enum (enum_named text))

-- what the Types of properties name, where names stand for these
abbrev pub types_by : Names → List ℕ → Option PropType
types_by names = prop_type names.enum_named
