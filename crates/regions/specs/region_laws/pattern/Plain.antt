-- Groups that no condition tells apart.
-- Source: the groups of properties and columns of this project's profile, over MSL version 3, ScalarProperty and Condition.
use Rattle.std.specs.Prelude.{◌≡◌, ◌≢◌, []}
use Rattle.round_trip.specs.Words.{PropId, Prop, At}
use Rattle.emc_base.specs.declared.value.Kind.TheVariants as kind
use Rattle.round_trip.specs.soundness.mappings.Joined.{Member, prop}
use Rattle.round_trip.specs.soundness.Kinds.{IsEnum}
use Rattle.regions.specs.Basis.{Basis}

-- a group without constants, none of whose properties is a flag or of an enumeration
pub record IsPlain (basis : Basis) (source : Member) : Type 0 where
  pub constants : basis.constants source ≡ []
  pub kinds : (p : PropId) (declared : Prop) → At basis.schema.model.props p.index declared → basis.group (prop p) ≡ basis.group source
      → (declared.kind ≢ kind.Boolean) × ¬ IsEnum declared.kind
