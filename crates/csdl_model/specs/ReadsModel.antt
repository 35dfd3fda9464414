-- What reading a CSDL document answers.
use Rattle.std.specs.Prelude.{◌≡◌, Result}
use Rattle.serde_json.specs.Data.{Data}
use Rattle.layouts.specs.declared.fault.Fault.{Fault}
use Rattle.layouts.specs.told_rules.Reads.{Answers}
use Rattle.edm_types.specs.declared.faults.VocabFault.{VocabFault}
use Rattle.edm_types.specs.declared.faults.VocabFile.TheVariants.{Csdl}
use Rattle.round_trip.specs.Words.{EntityModel}
use Rattle.round_trip.specs.soundness.models.Models.{IsSoundModel}
use Rattle.csdl_names.specs.csdl_lists.Raw.{raw_model}
use Rattle.csdl_meaning.specs.ModelMeaning.{meaning}
use Rattle.csdl_model.specs.ModelFaults.{IsModelFault}

-- the document breaks no rule, and means this model, which is sound
pub record IsModelOf (d : Data) (model : EntityModel) : Type 0 where
  pub unbroken : (fault : Fault) → ¬ IsModelFault d fault
  pub meant : model ≡ meaning (raw_model d)
  pub sound : IsSoundModel model

-- Ok with the model that is meant, where the document breaks no rule; else the least rule that it breaks, at its first place. Memory says
-- nothing.
abbrev pub ReadsModel : Data → Result EntityModel VocabFault → Type 0
ReadsModel d = Answers Csdl (IsModelFault d) (IsModelOf d)
