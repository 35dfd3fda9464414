-- Values among which there are some that no constant of a group is.
-- Source: the simple types and the enumerations of CSDL version 3; this project's choice of values that are shown.
use Rattle.std.specs.Prelude.{◌≢◌, List, [], ◌∷◌, map, filter, slice_get, unwrap_or, Contains, Bool, true, false, not}
use Rattle.std.specs.List.{list_any}
use Rattle.emc_base.specs.declared.value.Value.TheVariants as value
use Rattle.emc_base.specs.declared.value.Kind.TheVariants as kind
use Rattle.round_trip.specs.Words.{PropId, Value, Null, Whole, Flag, Kind, Prop, At, InDomain}
use Rattle.round_trip.specs.soundness.mappings.Joined.{prop}
use Rattle.round_trip.specs.soundness.Kinds.{IsEnum}
use Rattle.member_groups.specs.Tested.{AreInOneGroup}
use Rattle.schema_laws.specs.short_values.Numbers.{letter, number, numbers_from}
use Rattle.schema_laws.specs.state_demand.Selecting.{same_value}
use Rattle.regions.specs.Basis.{Basis}

-- both flags, a hundred texts, two byte lists, the numbers of an enumeration, or a hundred numbers
abbrev pub candidates : Kind → List Value
candidates kind.Boolean = Flag false ∷ Flag true ∷ []
candidates (kind.Text bound) = map letter (numbers_from 97 100)
candidates (kind.Binary bound) = value.Bytes [] ∷ value.Bytes (0 ∷ []) ∷ []
candidates (kind.Enum enumeration) = map Whole enumeration.members
candidates _ = map number (numbers_from 0 100)

-- the value is none of the constants
abbrev pub is_free : List Value → Value → Bool
is_free constants value = not (list_any (same_value value) constants)

-- the candidates that are no constants; of a flag and of an enumeration all of them
abbrev pub free_values : Kind → List Value → List Value
free_values kind.Boolean constants = candidates kind.Boolean
free_values (kind.Enum enumeration) constants = candidates (kind.Enum enumeration)
free_values kind constants = filter (is_free constants) (candidates kind)

-- the first of these
abbrev pub first_free : Kind → List Value → Value
first_free kind constants = unwrap_or (slice_get (free_values kind constants) 0) Null

-- the second of these
abbrev pub next_free : Kind → List Value → Value
next_free kind constants = unwrap_or (slice_get (free_values kind constants) 1) Null

-- two properties of one group, of which none is of an enumeration
pub record AreGrouped (basis : Basis) (p q : PropId) (declared other : Prop) : Type 0 where
  pub is_declared : At basis.schema.model.props p.index declared
  pub other_declared : At basis.schema.model.props q.index other
  pub in_one_group : AreInOneGroup basis.schema (prop p) (prop q)
  pub no_enum : ¬ IsEnum declared.kind
  pub other_no_enum : ¬ IsEnum other.kind

-- two values are different, in the domain of the kind, and no constants
pub record AreTwoFree (kind : Kind) (constants : List Value) (one two : Value) : Type 0 where
  pub one_fits : InDomain one kind
  pub two_fits : InDomain two kind
  pub different : one ≢ two
  pub one_free : ¬ Contains constants one
  pub two_free : ¬ Contains constants two
