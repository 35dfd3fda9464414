-- Which properties take each short value, and of which two candidates are left.
use Rattle.std.proofs.Common.{◌≢◌}
use Rattle.emc_base.specs.declared.value.Kind.TheVariants as kind
use Rattle.round_trip.specs.Words.{PropId, Prop, At}
use Rattle.round_trip.specs.soundness.mappings.Joined.{IsDependent, Joined, prop}
use Rattle.round_trip.specs.soundness.Kinds.{IsEnum}
use Rattle.cells.specs.Limits.{IsWithinLimits}
use Rattle.regions.specs.region_laws.IsBasis.{IsBasis}
use Rattle.regions.specs.Basis.{Basis}
use Rattle.region_states.specs.defaults.Candidates.{AreTwoFree, first_free, next_free}
use Rattle.schema_laws.specs.short_values.Short.{TakesShort}
use Rattle.region_states.proofs.defaults.Candidates.{plain_kind}
use Rattle.region_states.proofs.defaults.groups.Classes.{joined_key_kind}
use Rattle.schema_laws.proofs.sound_types.Dependent.{sound_kind}
use Rattle.region_states.proofs.defaults.groups.Constants.{plain_two}
use Rattle.schema_laws.proofs.short_values.Short.{fits_short}

module _ (basis : Basis) (is : IsBasis basis) where
  pub joined_takes : (p q : PropId) → IsDependent basis.schema.model p → Joined basis.schema (prop p) (prop q) → TakesShort basis.schema.model q
  joined_takes p q by joins declared here short is_short of_sort =
      fits_short declared.kind (joined_key_kind basis.schema is.sound p q by joins declared here) (sound_kind basis.schema.model is.sound.model q declared here) short is_short of_sort

  pub candidates_left : IsWithinLimits basis.schema → (p : PropId) (declared : Prop) → At basis.schema.model.props p.index declared
      → declared.kind ≢ kind.Boolean → ¬ IsEnum declared.kind
      → AreTwoFree declared.kind (basis.constants (prop p)) (first_free declared.kind (basis.constants (prop p))) (next_free declared.kind (basis.constants (prop p)))
  candidates_left limits p declared here no_flag no_enum = plain_two basis is p declared here limits (plain_kind declared.kind no_flag no_enum)
