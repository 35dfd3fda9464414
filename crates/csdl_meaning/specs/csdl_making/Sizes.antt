-- How many numbers a list of properties holds: each property has those of its enumeration for itself.
-- Source: CSDL version 3, Property, EnumType and Member.
use Rattle.std.specs.Prelude.{ℕ, List, length, sum_by}
use Rattle.emc_base.specs.declared.value.Kind.{Kind}
use Rattle.emc_base.specs.declared.value.Kind.TheVariants as kind
use Rattle.round_trip.specs.Words.{Prop}

-- how many numbers a kind holds
abbrev pub numbers_in : Kind → ℕ
numbers_in (kind.Enum enumeration) = length enumeration.members
numbers_in _ = 0

-- how many the kinds of properties hold together
abbrev pub numbers_held : List Prop → ℕ
numbers_held props = sum_by (λ prop. numbers_in prop.kind) props
