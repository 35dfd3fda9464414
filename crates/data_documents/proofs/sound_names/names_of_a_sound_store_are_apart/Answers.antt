use Rattle.data_documents.proofs.sound_names.Names.{store_names}
use Rattle.data_documents.proofs.sound_names.names_of_a_sound_store_are_apart.Goals as goal

pub returns : goal.returns
returns c = record { apart = store_names }
