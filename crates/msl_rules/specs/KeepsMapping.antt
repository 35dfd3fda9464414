-- When a document keeps the rules of MSL on what is written in it, between a model and a store.
-- Source: MSL version 3, in the profile of this project; that a list has fewer than 2 ^ 32 items is this program's choice.
use Rattle.std.specs.Prelude.{◌≡◌, ◌<◌, ◌^◌, List, length, All}
use Rattle.layouts.specs.declared.fault.Fault.{Fault}
use Rattle.round_trip.specs.Words.{EntityModel, StoreModel}
use Rattle.round_trip.specs.soundness.models.Models.{IsSoundModel}
use Rattle.round_trip.specs.soundness.Stores.{IsSoundStore}
use Rattle.msl_rules.specs.declared.msl_lists.raw.RawMapping.{RawMapping}
use Rattle.msl_rules.specs.declared.msl_lists.raw.RawSetMapping.{RawSetMapping}
use Rattle.msl_rules.specs.MappingFaults.{IsMappingListFault}

-- the items of a list have numbers of 32 bits
abbrev pub IsShort : {X : Type 0} → List X → Type 0
IsShort items = length items < 2 ^ 32

-- the lists in a set's mapping that lead to a fragment are no longer
pub record HasShortLists (set : RawSetMapping) : Type 0 where
  pub types : IsShort set.types
  pub fragments : All (λ types. IsShort types.fragments) set.types

-- nor are those in a document
pub record HasFewItems (raw : RawMapping) : Type 0 where
  pub sets : IsShort raw.sets
  pub each : All HasShortLists raw.sets
  pub links : IsShort raw.links

-- the model and the store are sound, and the document breaks none of the rules V6, V7 and V26 to V40; an association's mapping has two ends, as in
-- each document that keeps its layout, and the lists are no longer than this program reads
pub record KeepsMappingRules (model : EntityModel) (store : StoreModel) (raw : RawMapping) : Type 0 where
  pub sound_model : IsSoundModel model
  pub sound_store : IsSoundStore store
  pub ends : All (λ link. length link.ends ≡ 2) raw.links
  pub few : HasFewItems raw
  pub keeps : (fault : Fault) → ¬ IsMappingListFault model store raw fault
