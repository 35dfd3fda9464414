use Rattle.worked_examples.proofs.bosses.LinkHidden.{boss_is_hidden}
use Rattle.worked_examples.proofs.hides_a_boss.Goals as goal

pub returns : goal.returns
returns c = record { fails = boss_is_hidden }
