-- The groups of properties, and their constants.
use Rattle.std.proofs.Common.{◌≡◌, ◌<◌, ◌≤◌, List, length, Option, Some, None, IsSome, refl, sym, subst, arith}
use Rattle.round_trip.specs.Words.{GroupId, PropId, Value}
use Rattle.round_trip.specs.soundness.mappings.Joined.{prop}
use Rattle.member_groups.specs.MemberGroups.{constants_in, group_in}
use Rattle.cells.specs.declared.parts.Parts.{Parts}
use Rattle.cells.specs.Parts.{AreParts}

module _ (parts : Parts) (are : AreParts parts) (p : PropId) where
  -- what is no property has no group
  pub no_group : length parts.model.now.props ≤ p.index → None ≡ group_in parts.cells.now.groups (prop p)
  no_group past = by (group_in parts.cells.now.groups (prop p)) (are.cells.groups.only (prop p))
    where
      by : (found : Option GroupId) → (IsSome found → p.index < length parts.model.now.props) → None ≡ found
      by None within = refl
      by (Some group) within = let inside : p.index < length parts.model.now.props = within refl in absurd (omega (arith, past, inside))

  -- a property has one
  pub has_group : p.index < length parts.model.now.props → IsSome (group_in parts.cells.now.groups (prop p))
  has_group within = are.cells.groups.some (prop p) within

  -- and this has its constants
  pub has_constants : (group : GroupId) → group_in parts.cells.now.groups (prop p) ≡ Some group → IsSome (constants_in parts.cells.now.groups group)
  has_constants group is =
      let listed = are.cells.groups.constants (prop p) group is in
      subst (λ (o : Option (List Value)). IsSome o) (sym listed.1) refl
