use Rattle.worked_examples.proofs.sound_examples.stores.BrokenStores as broken
use Rattle.worked_examples.proofs.sound_examples.broken_stores_are_not_sound.Goals as goal

pub returns : goal.returns
returns c = record { key = broken.no_optional_key; names = broken.no_one_name; itself = broken.no_to_itself; whole = broken.no_to_half }
