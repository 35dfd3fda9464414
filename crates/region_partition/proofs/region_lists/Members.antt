-- Groups, constants and properties that are there.
use Rattle.std.proofs.Common.{◌≡◌, ◌<◌, List, [], length, All, Option, Some, None, IsSome, slice_get, refl, sym, subst}
use Rattle.std.specs.Option.{option_map_or}
use Rattle.std.proofs.lemmas.List.Elements.{All-contains, All-nil}
use Rattle.emc_base.proofs.Mapped.{contains_at}
use Rattle.round_trip.specs.Words.{GroupId, TypeId, PropId, EntityType, Value, props_of}
use Rattle.round_trip.specs.soundness.mappings.Joined.{prop}
use Rattle.round_trip.specs.soundness.models.ModelIds.{IsPropId}
use Rattle.member_groups.specs.MemberGroups.{constants_in, group_in}
use Rattle.cells.specs.declared.parts.Parts.{Parts}
use Rattle.cells.specs.Parts.{AreParts}

module _ (parts : Parts) (are : AreParts parts) where
  -- a property has a group
  pub has_group : (p : PropId) → p.index < length parts.model.now.props → IsSome (group_in parts.cells.now.groups (prop p))
  has_group p within = are.cells.groups.some (prop p) within

  -- and this has its constants
  pub has_constants : (p : PropId) (group : GroupId) → group_in parts.cells.now.groups (prop p) ≡ Some group → IsSome (constants_in parts.cells.now.groups group)
  has_constants p group is =
      let listed = are.cells.groups.constants (prop p) group is in
      subst (λ (o : Option (List Value)). IsSome o) (sym listed.1) refl

  -- the properties of a type are those of the model
  pub props_within : (t : TypeId) → All (λ p. p.index < length parts.model.now.props) (props_of parts.model.now t)
  props_within t = by (slice_get parts.model.now.types t.index) refl
    where
      by : (found : Option EntityType) → slice_get parts.model.now.types t.index ≡ found
          → All (λ (p : PropId). p.index < length parts.model.now.props) (option_map_or (λ declared. declared.props) found [])
      by None at = All-nil (λ (p : PropId). p.index < length parts.model.now.props)
      by (Some declared) at = All-contains (λ (type : EntityType). All (IsPropId parts.model.now) type.props) parts.model.now.types declared are.sound.model.ids.props
          (contains_at parts.model.now.types t.index declared at)
