-- Kinds that are sound, and kinds that aren't.
use Rattle.std.specs.Prelude.{pos, [], ◌∷◌, Some}
use Rattle.round_trip.specs.Words.{Kind}
use Rattle.emc_base.specs.declared.value.Kind.TheVariants as kind
use Rattle.emc_base.specs.declared.value.Under.TheVariants as under

-- an enumeration of the smallest and the largest byte
abbrev pub two_bytes : Kind
two_bytes = kind.Enum (record { under = under.Byte; members = pos 0 ∷ pos 255 ∷ [] })

-- an enumeration of a number that is no byte
abbrev pub no_byte : Kind
no_byte = kind.Enum (record { under = under.Byte; members = pos 256 ∷ [] })

-- an enumeration of nothing
abbrev pub no_number : Kind
no_number = kind.Enum (record { under = under.Int32; members = [] })

-- an enumeration that has a number twice
abbrev pub one_twice : Kind
one_twice = kind.Enum (record { under = under.Int32; members = pos 1 ∷ pos 1 ∷ [] })

-- a text of no characters
abbrev pub no_character : Kind
no_character = kind.Text (Some 0)
