-- The limits within which the decision is asked: on association sets, on a type's properties, and on the constants of a group.
-- Source: the limits of this project's profile.
use Rattle.std.specs.Prelude.{ℕ, List, ◌<◌, ◌≤◌, length, All}
use Rattle.round_trip.specs.Words.{PropId, Value, EntityModel, Schema}
use Rattle.emc_base.specs.Lists.{AreApart}
use Rattle.round_trip.specs.soundness.mappings.Joined.{Member, prop}
use Rattle.member_groups.specs.Tested.{IsConstant}

-- so many association sets, so many properties of a type, so many constants of a group that holds a property
abbrev pub most_assocs : ℕ
most_assocs = 256

abbrev pub most_props : ℕ
most_props = 256

abbrev pub most_constants : ℕ
most_constants = 64

-- no more different values than that are constants of its group
abbrev pub HasFewConstants : Schema → Member → Type 0
HasFewConstants schema member = (values : List Value) → AreApart values → All (IsConstant schema member) values → length values ≤ most_constants

-- not too many association sets, and no type with too many properties
abbrev pub IsSmallModel : EntityModel → Type 0
IsSmallModel model = (length model.assocs ≤ most_assocs) × All (λ type. length type.props ≤ most_props) model.types

-- no group of a property with too many constants
abbrev pub HasSmallGroups : Schema → Type 0
HasSmallGroups schema = (p : PropId) → p.index < length schema.model.props → HasFewConstants schema (prop p)

-- none of these limits is passed
pub record IsWithinLimits (schema : Schema) : Type 0 where
  pub model : IsSmallModel schema.model
  pub groups : HasSmallGroups schema
