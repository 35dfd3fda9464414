use Rattle.worked_examples.proofs.bosses.BossLost.{boss_is_lost}
use Rattle.worked_examples.proofs.loses_a_boss.Goals as goal

pub returns : goal.returns
returns c = record { fails = boss_is_lost }
