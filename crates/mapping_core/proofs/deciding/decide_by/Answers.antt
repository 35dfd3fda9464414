use Rattle.mapping_core.proofs.deciding.decide_by.Goals as goal

pub judge-requires-clause-sound : goal.judge-requires-clause-sound
judge-requires-clause-sound c = c.requires.read.read.sound
