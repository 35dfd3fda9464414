use Rattle.worked_examples.proofs.sound_examples.KindFacts as kinds
use Rattle.worked_examples.proofs.sound_examples.kinds_are_told.Goals as goal

pub returns : goal.returns
returns c = record { sound = kinds.sound; large = kinds.large; empty = kinds.empty; twice = kinds.twice; bound = kinds.bound; held = kinds.held; other = kinds.other }
