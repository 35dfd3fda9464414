-- The types of columns by their names.
-- Source: SSDL version 3, the column types of SQL Server, as far as the profile has them.
use Rattle.std.specs.Prelude.{◌≡◌, ◌⊎◌, ℕ, List, Option, Some, None, option_map, if◌then◌else◌, codes}
use Rattle.std.specs.Str.{bytes_eq}
use Rattle.csdl_types.specs.declared.simple.PropType.{PropType}
use Rattle.csdl_types.specs.declared.simple.PropType.TheVariants as named
use Rattle.csdl_types.specs.declared.simple.Simple.{Simple}
use Rattle.csdl_types.specs.declared.simple.Simple.TheVariants.{Byte, Int16, Int32, Int64, Boolean, Text, Binary}
use Rattle.csdl_types.specs.PropTypes.{HasLength}
use Rattle.csdl_types.specs.Simple.{simple_of}

-- the simple type that a column's Type corresponds to
abbrev pub column_simple : List ℕ → Option Simple
column_simple name =
    if bytes_eq name (codes "tinyint") then Some Byte else
    if bytes_eq name (codes "smallint") then Some Int16 else
    if bytes_eq name (codes "int") then Some Int32 else
    if bytes_eq name (codes "bigint") then Some Int64 else
    if bytes_eq name (codes "bit") then Some Boolean else
    if bytes_eq name (codes "nvarchar") then Some Text else
    if bytes_eq name (codes "nvarchar(max)") then Some Text else
    if bytes_eq name (codes "varbinary") then Some Binary else
    if bytes_eq name (codes "varbinary(max)") then Some Binary else None

-- the same, as what the Type of a property names
abbrev pub column_type : List ℕ → Option PropType
column_type name = option_map named.Simple (column_simple name)

-- A MaxLength may stand at a column of this Type: at a text or a byte list without `(max)`. One list serves both vocabularies, so that of a
-- column whose Type is `String` or `Binary` it isn't the bound that is told.
abbrev pub HasColumnLength : List ℕ → Type 0
HasColumnLength name = HasLength (simple_of name) ⊎ (name ≡ codes "nvarchar") ⊎ (name ≡ codes "varbinary")
