use Rattle.worked_examples.proofs.bosses.NeededBoss.{each_others_boss_is_legal, missing_boss_is_not}
use Rattle.worked_examples.proofs.needs_a_boss.Goals as goal

pub returns : goal.returns
returns c = record { legal = each_others_boss_is_legal; missing = missing_boss_is_not }
