use Rattle.ssdl_model.proofs.ssdl_sound.SoundStores.{sound_store}
use Rattle.ssdl_model.proofs.ssdl_sound.a_store_that_breaks_no_rule_is_sound.Goals as goal

pub returns : goal.returns
returns c = record { sound = sound_store }
