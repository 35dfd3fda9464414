-- A document that breaks no rule means a mapping that is sound with its model and its store.
use Rattle.std.proofs.Common.{◌≡◌, inr, None, All, length, sym, subst}
use Rattle.serde_json.specs.Data.{Data}
use Rattle.groupings.specs.least_fault.Least.{IsLeast}
use Rattle.layouts.specs.Faults.{fault_cmp}
use Rattle.round_trip.specs.Words.{EntityModel, StoreModel, Mapping}
use Rattle.round_trip.specs.soundness.mappings.Mappings.{IsSoundSchema}
use Rattle.round_trip.specs.soundness.models.Models.{IsSoundModel}
use Rattle.round_trip.specs.soundness.Stores.{IsSoundStore}
use Rattle.round_trip.specs.Between.{schema_of}
use Rattle.msl_rules.specs.declared.msl_lists.raw.RawMapping.{RawMapping}
use Rattle.msl_rules.specs.msl_lists.Raw.{raw_mapping}
use Rattle.msl_rules.specs.KeepsMapping.{HasFewItems, KeepsMappingRules}
use Rattle.msl_rules.specs.MappingFaults.{IsMappingFault}
use Rattle.msl_rules.specs.MappingMeaning.{mapping_in, schema_in}
use Rattle.msl_fragments.specs.ReadsMapping.{IsMappingOf}

module _ (model : EntityModel) (store : StoreModel) (d : Data) where
  -- it keeps the rules on what is written
  keeps_all : IsSoundModel model → IsSoundStore store → All (λ link. length link.ends ≡ 2) (raw_mapping d).links → HasFewItems (raw_mapping d) → IsLeast fault_cmp (IsMappingFault model store d) None
      → KeepsMappingRules model store (raw_mapping d)
  keeps_all of_model of_store ends few none = record { sound_model = of_model; sound_store = of_store; ends = ends; few = few; keeps = λ fault breaks. none fault (inr breaks) }

  pub is_mapping_of : (mapping : Mapping) → ((m : EntityModel) (s : StoreModel) (raw : RawMapping) → KeepsMappingRules m s raw → IsSoundSchema (schema_in m s raw))
      → IsSoundModel model → IsSoundStore store → All (λ link. length link.ends ≡ 2) (raw_mapping d).links → HasFewItems (raw_mapping d) → IsLeast fault_cmp (IsMappingFault model store d) None
      → mapping ≡ mapping_in model store (raw_mapping d) → IsMappingOf model store d mapping
  is_mapping_of mapping sound of_model of_store ends few none is = record {
    unbroken = none;
    meant = is;
    sound = subst (λ (m : Mapping). IsSoundSchema (schema_of model store m)) (sym is) (sound model store (raw_mapping d) (keeps_all of_model of_store ends few none));
  }
