use Rattle.data_documents.proofs.sound_names.Names.{model_names}
use Rattle.data_documents.proofs.sound_names.names_of_a_sound_model_are_apart.Goals as goal

pub returns : goal.returns
returns c = record { apart = model_names }
