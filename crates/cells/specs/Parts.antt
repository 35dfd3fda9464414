-- The condition of each call that takes a model, a store, a mapping and its cells together, and that of calls that take cells without the mapping.
-- Source: the profile of this project, over CSDL, SSDL and MSL version 3.
use Rattle.std.specs.Prelude.{◌≡◌, ◌≤◌, length, Some, IsSome}
use Rattle.round_trip.specs.Words.{TableId, ColId, GroupId, EntityModel, StoreModel, Schema}
use Rattle.round_trip.specs.soundness.mappings.Joined.{col}
use Rattle.round_trip.specs.soundness.mappings.Mappings.{IsSoundSchema}
use Rattle.round_trip.specs.soundness.models.Models.{IsSoundModel}
use Rattle.round_trip.specs.soundness.Stores.{IsSoundStore, IsColId}
use Rattle.member_groups.specs.MemberGroups.{constants_in, group_in}
use Rattle.cells.specs.declared.cells.Cells.{Cells}
use Rattle.cells.specs.declared.parts.Parts.{Parts}
use Rattle.cells.specs.Cells.{TellsCells}
use Rattle.cells.specs.Limits.{IsWithinLimits}

-- the model, the store and the mapping
abbrev pub schema_in : Parts → Schema
schema_in parts = record { model = parts.model.now; store = parts.store.now; mapping = parts.mapping.now }

-- they are sound and within the limits, and the cells are theirs
pub record AreParts (parts : Parts) : Type 0 where
  pub sound : IsSoundSchema (schema_in parts)
  pub limits : IsWithinLimits (schema_in parts)
  pub cells : TellsCells (schema_in parts) parts.cells.now

-- the condition of a call that takes cells without their mapping: the model is sound, and something is told of each of its association sets
pub record CoverModel (model : EntityModel) (cells : Cells) : Type 0 where
  pub sound : IsSoundModel model
  pub places : length model.assocs ≤ length cells.places

-- and where it takes a store, this is sound, and something is told of each of its tables and columns
pub record CoverStore (store : StoreModel) (cells : Cells) : Type 0 where
  pub sound : IsSoundStore store
  pub owners : length store.tables ≤ length cells.owners
  pub pairings : length store.tables ≤ length cells.pairings
  pub groups : (t : TableId) (c : ColId) → IsColId store t c → IsSome (group_in cells.groups (col t c))
  pub constants : (t : TableId) (c : ColId) → IsColId store t c → (group : GroupId) → group_in cells.groups (col t c) ≡ Some group
      → IsSome (constants_in cells.groups group)
