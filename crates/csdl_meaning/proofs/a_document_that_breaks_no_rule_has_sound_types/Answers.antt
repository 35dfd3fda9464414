use Rattle.csdl_meaning.proofs.types.Sound.{sound}
use Rattle.csdl_meaning.proofs.a_document_that_breaks_no_rule_has_sound_types.Goals as goal

pub returns : goal.returns
returns c = record { sound = sound }
