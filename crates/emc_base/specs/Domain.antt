-- Which values a property or a column of a kind may hold, null aside.
-- Source: the simple types and the enumerations of CSDL and the column types of SSDL, version 3.
use Rattle.std.specs.Prelude.{◌≡◌, ℕ, ◌<◌, ◌≤◌, ℤ, pos, negsuc, ◌≤ℤ◌, List, length, All, Contains, Option, Some, None, ⊤, encode_utf8_all, IsTrue}
use Rattle.std.specs.Str.{all_scalars}
use Rattle.emc_base.specs.declared.value.Value.{Value}
use Rattle.emc_base.specs.declared.value.Kind.{Kind}
use Rattle.emc_base.specs.declared.value.Value.TheVariants as value
use Rattle.emc_base.specs.declared.value.Kind.TheVariants as kind

-- no bound, or at most so many
abbrev pub IsWithin : Option ℕ → ℕ → Type 0
IsWithin None count = ⊤
IsWithin (Some most) count = count ≤ most

-- from low to high, both included
abbrev pub IsBetween : ℤ → ℤ → ℤ → Type 0
IsBetween low high number = (low ≤ℤ number) × (number ≤ℤ high)

-- bytes that spell Unicode scalar values in UTF-8, no more of these than the bound
pub record IsText (bound : Option ℕ) (bytes : List ℕ) : Type 0 where
  pub characters : List ℕ
  pub scalar : IsTrue (all_scalars characters)
  pub spelled : encode_utf8_all characters ≡ bytes
  pub within : IsWithin bound (length characters)

-- bytes, no more of them than the bound
pub record IsByteList (bound : Option ℕ) (bytes : List ℕ) : Type 0 where
  pub small : All (λ byte. byte < 256) bytes
  pub within : IsWithin bound (length bytes)

-- the value is of the kind's sort and within its bounds, or a number of the enumeration; null is in no domain
abbrev pub InDomain : Value → Kind → Type 0
InDomain (value.Whole number) kind.Byte = IsBetween (pos 0) (pos 255) number
InDomain (value.Whole number) kind.Int16 = IsBetween (negsuc 32767) (pos 32767) number
InDomain (value.Whole number) kind.Int32 = IsBetween (negsuc 2147483647) (pos 2147483647) number
InDomain (value.Whole number) kind.Int64 = IsBetween (negsuc 9223372036854775807) (pos 9223372036854775807) number
InDomain (value.Whole number) (kind.Enum enumeration) = Contains enumeration.members number
InDomain (value.Flag flag) kind.Boolean = ⊤
InDomain (value.Text text) (kind.Text bound) = IsText bound text
InDomain (value.Bytes bytes) (kind.Binary bound) = IsByteList bound bytes
InDomain _ _ = ⊥
