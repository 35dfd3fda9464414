use Rattle.worked_examples.proofs.LevelLost.{level_is_lost}
use Rattle.worked_examples.proofs.loses_a_level.Goals as goal

pub returns : goal.returns
returns c = record { fails = level_is_lost }
