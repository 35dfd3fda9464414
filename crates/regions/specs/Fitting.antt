-- Whether a value is in the domain of a kind, as a computed answer.
-- Source: the simple types and the enumerations of CSDL and the column types of SSDL, version 3.
use Rattle.std.specs.Prelude.{◌↔◌, ℕ, ℤ, pos, negsuc, length, Option, None, Some, Bool, true, false, ◌&&◌, nat_le, nat_lt, int_le, chars, IsTrue}
use Rattle.std.specs.List.{list_all, list_any}
use Rattle.std.specs.Str.{is_utf8}
use Rattle.round_trip.specs.Words.{Value, Kind, InDomain}
use Rattle.emc_base.specs.declared.value.Value.TheVariants as value
use Rattle.emc_base.specs.declared.value.Kind.TheVariants as kind

-- the answer tells of any value and any kind whether the value is in the kind's domain
pub record DecidesDomains (fits : Value → Kind → Bool) : Type 0 where
  pub tells : (value : Value) (kind : Kind) → IsTrue (fits value kind) ↔ InDomain value kind

-- whether there is no bound, or at most so many
abbrev pub is_within : Option ℕ → ℕ → Bool
is_within None count = true
is_within (Some most) count = nat_le count most

-- whether a number is from low to high, both included
abbrev pub is_between : ℤ → ℤ → ℤ → Bool
is_between low high number = int_le low number && int_le number high

-- whether it is the same number
abbrev pub same_number : ℤ → ℤ → Bool
same_number one two = int_le one two && int_le two one

-- whether the value is in the domain of the kind
abbrev pub fits : Value → Kind → Bool
fits (value.Whole number) kind.Byte = is_between (pos 0) (pos 255) number
fits (value.Whole number) kind.Int16 = is_between (negsuc 32767) (pos 32767) number
fits (value.Whole number) kind.Int32 = is_between (negsuc 2147483647) (pos 2147483647) number
fits (value.Whole number) kind.Int64 = is_between (negsuc 9223372036854775807) (pos 9223372036854775807) number
fits (value.Whole number) (kind.Enum enumeration) = list_any (same_number number) enumeration.members
fits (value.Flag flag) kind.Boolean = true
fits (value.Text text) (kind.Text bound) = is_utf8 text && is_within bound (length (chars text))
fits (value.Bytes bytes) (kind.Binary bound) = list_all (λ byte. nat_lt byte 256) bytes && is_within bound (length bytes)
fits _ _ = false
