use Rattle.mapping_core.proofs.deciding.decide.Goals as goal

pub of-requires : goal.of-requires
of-requires c = c.requires.read.sound
