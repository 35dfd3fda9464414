-- What the Type and the MaxLength of a property mean: its kind.
-- Source: CSDL version 3, Property, MaxLength, EnumType, UnderlyingType and Member.
use Rattle.std.specs.Prelude.{ℕ, pos, negsuc, slice_get, Option, Some, None, unwrap_or}
use Rattle.std.specs.Option.{option_and_then, option_map_or}
use Rattle.emc_base.specs.declared.value.Kind.{Kind}
use Rattle.emc_base.specs.declared.value.Kind.TheVariants as kind
use Rattle.emc_base.specs.declared.value.Under.TheVariants as under
use Rattle.csdl_names.specs.declared.csdl_lists.raw.RawBound.{RawBound}
use Rattle.csdl_names.specs.declared.csdl_lists.raw.RawBound.TheVariants.{Absent, Max, Number}
use Rattle.csdl_names.specs.declared.csdl_lists.raw.RawEnum.{RawEnum}
use Rattle.csdl_names.specs.declared.csdl_lists.raw.RawModel.{RawModel}
use Rattle.csdl_names.specs.declared.csdl_lists.raw.RawProp.{RawProp}
use Rattle.csdl_names.specs.csdl_lists.References.{names_in}
use Rattle.csdl_types.specs.declared.simple.Simple.{Simple}
use Rattle.csdl_types.specs.declared.simple.Simple.TheVariants.{Byte, Int16, Int32, Int64, Boolean, Text, Binary}
use Rattle.csdl_types.specs.Numbers.{numbers_of, under_of}
use Rattle.csdl_types.specs.Simple.{simple_of}
use Rattle.csdl_meaning.specs.Rising.{rising}

-- how long a value may be; None where there is no bound
abbrev pub most_of : RawBound → Option ℕ
most_of Absent = None
most_of Max = None
most_of (Number (pos most)) = Some most
most_of (Number (negsuc below)) = None

-- the kind of a simple type
abbrev pub simple_kind : RawBound → Simple → Kind
simple_kind bound Byte = kind.Byte
simple_kind bound Int16 = kind.Int16
simple_kind bound Int32 = kind.Int32
simple_kind bound Int64 = kind.Int64
simple_kind bound Boolean = kind.Boolean
simple_kind bound Text = kind.Text (most_of bound)
simple_kind bound Binary = kind.Binary (most_of bound)

-- the kind of an enumeration: its underlying type, and its numbers in rising order
abbrev pub enum_kind : RawEnum → Kind
enum_kind enum = kind.Enum (record { under = unwrap_or (under_of enum) under.Int32; members = rising (numbers_of enum) })

-- the kind of a property: that of a simple type, or else of an enumeration
abbrev pub kind_of : RawModel → RawProp → Kind
kind_of raw prop = option_map_or (simple_kind prop.bound) (simple_of prop.kind)
    (option_map_or enum_kind (option_and_then (slice_get raw.enums) ((names_in raw).enum_named prop.kind)) kind.Boolean)
