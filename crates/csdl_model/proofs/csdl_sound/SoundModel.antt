-- What a document means is a sound model where it breaks no rule.
use Rattle.round_trip.specs.soundness.models.Models.{IsSoundModel}
use Rattle.csdl_names.specs.declared.csdl_lists.raw.RawModel.{RawModel}
use Rattle.csdl_meaning.specs.ModelMeaning.{meaning}
use Rattle.csdl_meaning.proofs.types.Sound.{sound}
use Rattle.csdl_meaning.proofs.csdl_forests.Forests.{ids_inside, is_forest}
use Rattle.csdl_model.specs.csdl_sound.SoundMeaning.{KeepsRules}
use Rattle.csdl_model.proofs.csdl_sound.types.MeantTypes.{meant}
use Rattle.csdl_model.proofs.csdl_sound.associations.SetIds.{constraints_inside, elements_concrete, elements_inside, ends_inside}
use Rattle.csdl_model.proofs.csdl_sound.associations.SetNames.{distinct_names}
use Rattle.csdl_model.proofs.csdl_sound.constraints.SoundArrows.{no_circle}
use Rattle.csdl_model.proofs.csdl_sound.associations.SoundAssocs.{sound_assocs}

-- its parts, joined
pub sound_model : (raw : RawModel) → KeepsRules raw → IsSoundModel (meaning raw)
sound_model raw keeps = let types = sound raw (meaning raw) keeps.types (meant raw) in record {
  ids = record {
    bases = types.base_ids;
    keys = types.key_ids;
    props = types.prop_ids;
    owners = types.owner_ids;
    nodes = ids_inside raw;
    elements = elements_inside raw keeps;
    ends = ends_inside raw keeps;
    constraints = constraints_inside raw keeps;
  };
  names = distinct_names raw keeps;
  bases = types.bases;
  types = types.types;
  kinds = types.kinds;
  elements = elements_concrete raw keeps;
  assocs = sound_assocs raw keeps;
  arrows = no_circle raw keeps;
  forest = is_forest raw;
}
