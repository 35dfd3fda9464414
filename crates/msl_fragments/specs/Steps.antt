-- The rules of MSL that are left when some have been asked. Only for the steps of the reader.
use Rattle.std.specs.Prelude.{◌⊎◌}
use Rattle.layouts.specs.declared.fault.Fault.{Fault}
use Rattle.round_trip.specs.Words.{EntityModel, StoreModel}
use Rattle.msl_rules.specs.declared.msl_lists.raw.RawMapping.{RawMapping}
use Rattle.msl_rules.specs.NameRules.{BreaksTypeNameRules, IsUnresolvedName}
use Rattle.msl_rules.specs.MappingFaults.{BreaksMappingRules, IsFaultAfterNames}

module _ (model : EntityModel) (store : StoreModel) (raw : RawMapping) where
  -- those after V6
  abbrev pub IsFaultAfterTwice : Fault → Type 0
  IsFaultAfterTwice fault = IsUnresolvedName model store raw fault ⊎ IsFaultAfterNames model store raw fault

  -- those after V26
  abbrev pub IsFaultAfterContainers : Fault → Type 0
  IsFaultAfterContainers fault = BreaksTypeNameRules model raw fault ⊎ BreaksMappingRules model store raw fault
