-- What reading an MSL document between a model and a store answers.
use Rattle.std.specs.Prelude.{◌≡◌, Result}
use Rattle.serde_json.specs.Data.{Data}
use Rattle.layouts.specs.declared.fault.Fault.{Fault}
use Rattle.layouts.specs.told_rules.Reads.{Answers}
use Rattle.edm_types.specs.declared.faults.VocabFault.{VocabFault}
use Rattle.edm_types.specs.declared.faults.VocabFile.TheVariants.{Msl}
use Rattle.round_trip.specs.Words.{EntityModel, StoreModel, Mapping}
use Rattle.round_trip.specs.soundness.mappings.Mappings.{IsSoundSchema}
use Rattle.round_trip.specs.Between.{schema_of}
use Rattle.msl_rules.specs.msl_lists.Raw.{raw_mapping}
use Rattle.msl_rules.specs.MappingMeaning.{mapping_in}
use Rattle.msl_rules.specs.MappingFaults.{IsMappingFault}

module _ (model : EntityModel) (store : StoreModel) (d : Data) where
  -- the document breaks no rule, and means this mapping, which is sound with the model and the store
  pub record IsMappingOf (mapping : Mapping) : Type 0 where
    pub unbroken : (fault : Fault) → ¬ IsMappingFault model store d fault
    pub meant : mapping ≡ mapping_in model store (raw_mapping d)
    pub sound : IsSoundSchema (schema_of model store mapping)

  -- Ok with the mapping that is meant, where the document breaks no rule; else the least rule that it breaks, at its first place. Memory says
  -- nothing.
  abbrev pub ReadsMapping : Result Mapping VocabFault → Type 0
  ReadsMapping = Answers Msl (IsMappingFault model store d) IsMappingOf
