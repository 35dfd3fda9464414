-- A document that breaks no rule means a sound model.
use Rattle.std.proofs.Common.{◌≡◌, inl, inr, None, sym, subst}
use Rattle.serde_json.specs.Data.{Data}
use Rattle.groupings.specs.least_fault.Least.{IsLeast}
use Rattle.layouts.specs.Faults.{fault_cmp}
use Rattle.round_trip.specs.Words.{EntityModel}
use Rattle.round_trip.specs.soundness.models.Models.{IsSoundModel}
use Rattle.csdl_names.specs.declared.csdl_lists.raw.RawModel.{RawModel}
use Rattle.csdl_names.specs.csdl_lists.Raw.{raw_model}
use Rattle.csdl_meaning.specs.ModelMeaning.{meaning}
use Rattle.csdl_model.specs.csdl_sound.SoundMeaning.{KeepsRules}
use Rattle.csdl_model.specs.ModelFaults.{IsModelFault}
use Rattle.csdl_model.specs.ReadsModel.{IsModelOf}

-- it keeps the rules on what is written
keeps_all : (d : Data) → IsLeast fault_cmp (IsModelFault d) None → KeepsRules (raw_model d)
keeps_all d none = record {
  types = record {
    repeats_none = λ fault is. none fault (inr (inl is));
    resolves_all = λ fault is. none fault (inr (inr (inl is)));
    keeps_types = λ fault is. none fault (inr (inr (inr (inl is))));
  };
  constraints = λ fault is. none fault (inr (inr (inr (inr (inl is)))));
  sets = λ fault is. none fault (inr (inr (inr (inr (inr is)))));
}

pub is_model_of : (d : Data) (model : EntityModel) → ((raw : RawModel) → KeepsRules raw → IsSoundModel (meaning raw)) → IsLeast fault_cmp (IsModelFault d) None
    → model ≡ meaning (raw_model d) → IsModelOf d model
is_model_of d model sound none is = record { unbroken = none; meant = is; sound = subst IsSoundModel (sym is) (sound (raw_model d) (keeps_all d none)) }
