-- The groups of joined properties and columns, told by numbers.
-- Source: the groups of properties and columns of this project's profile, over MSL version 3, ScalarProperty.
use Rattle.std.specs.Prelude.{◌≡◌, ◌↔◌, ℕ, List, slice_get, Option, option_and_then, IsSome}
use Rattle.round_trip.specs.Words.{EntityModel, StoreModel, Mapping, Fragment, Schema}
use Rattle.round_trip.specs.soundness.mappings.Joined.{Member, IsNoKey, Joined}
use Rattle.member_groups.specs.declared.joined_groups.groups.Groups.{Groups}
use Rattle.member_groups.specs.joined_groups.Places.{place_of}

-- the number of the group of a property or a column, as it is known
abbrev pub group_of : Groups → Member → Option ℕ
group_of groups member = option_and_then (slice_get groups.classes.numbers) (place_of groups.places member)

-- what is known are the groups: just what is no part of a key has one, and two have one number exactly where they are joined
pub record AreGroups (schema : Schema) (groups : Groups) : Type 0 where
  pub some : (member : Member) → IsNoKey schema member → IsSome (group_of groups member)
  pub only : (member : Member) → IsSome (group_of groups member) → IsNoKey schema member
  pub each : (one other : Member) → IsNoKey schema one → IsNoKey schema other → (group_of groups one ≡ group_of groups other) ↔ Joined schema one other

-- they are the groups of each schema of this model and this store whose entity fragments are these
abbrev pub TellsGroups : EntityModel → StoreModel → List Fragment → Groups → Type 0
TellsGroups model store fragments groups = (mapping : Mapping) → mapping.fragments ≡ fragments → AreGroups (record { model = model; store = store; mapping = mapping }) groups
