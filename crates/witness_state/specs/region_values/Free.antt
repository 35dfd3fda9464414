-- Which candidates of a kind count as free.
-- Source: this project's choice of the values in the states that it shows.
use Rattle.std.specs.Prelude.{List, Bool, true}
use Rattle.emc_base.specs.declared.value.Kind.TheVariants as kind
use Rattle.round_trip.specs.Words.{Value, Kind}
use Rattle.region_states.specs.defaults.Candidates.{is_free}

-- each flag and each number of an enumeration, else what is none of the constants
abbrev pub is_left : Kind → List Value → Value → Bool
is_left kind.Boolean constants value = true
is_left (kind.Enum enumeration) constants value = true
is_left kind constants value = is_free constants value
