use Rattle.csdl_model.proofs.csdl_sound.SoundModel.{sound_model}
use Rattle.csdl_model.proofs.csdl_sound.a_document_that_breaks_no_rule_is_sound.Goals as goal

pub returns : goal.returns
returns c = record { sound = sound_model }
