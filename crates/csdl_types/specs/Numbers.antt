-- The numbers of an enumeration's members, and which an underlying type allows.
-- Source: CSDL version 3, EnumType, UnderlyingType and Member.
use Rattle.std.specs.Prelude.{ℤ, ◌+ℤ◌, pos, List, [], ◌∷◌, Option, Some, None, unwrap_or}
use Rattle.std.specs.Option.{option_and_then, option_map_or}
use Rattle.emc_base.specs.declared.value.Under.{Under}
use Rattle.emc_base.specs.declared.value.Under.TheVariants as under
use Rattle.csdl_names.specs.declared.csdl_lists.raw.RawEnum.{RawEnum}
use Rattle.csdl_names.specs.declared.csdl_lists.raw.RawMember.{RawMember}
use Rattle.csdl_types.specs.declared.simple.Simple.{Simple}
use Rattle.csdl_types.specs.declared.simple.Simple.TheVariants.{Byte, Int16, Int32, Int64, Boolean, Text, Binary}
use Rattle.csdl_types.specs.Simple.{simple_of}

-- the numbers of members, of which the first has this number where none is given; each further one has one more than the one before it
abbrev pub numbers_from : ℤ → List RawMember → List ℤ
numbers_from next [] = []
numbers_from next (member ∷ members) = let number = unwrap_or member.value next in number ∷ numbers_from (number +ℤ pos 1) members

-- the numbers of an enumeration's members
abbrev pub numbers_of : RawEnum → List ℤ
numbers_of enum = numbers_from (pos 0) enum.members

-- a simple type that may underlie an enumeration
abbrev pub under_simple : Simple → Option Under
under_simple Byte = Some under.Byte
under_simple Int16 = Some under.Int16
under_simple Int32 = Some under.Int32
under_simple Int64 = Some under.Int64
under_simple Boolean = None
under_simple Text = None
under_simple Binary = None

-- the type that underlies an enumeration: Int32 where none is named; None where the named one can't
abbrev pub under_of : RawEnum → Option Under
under_of enum = option_map_or (λ name. option_and_then under_simple (simple_of name)) enum.underlying (Some under.Int32)
