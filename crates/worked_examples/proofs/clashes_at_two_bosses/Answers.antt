use Rattle.worked_examples.proofs.bosses.TwoBosses.{two_bosses_clash}
use Rattle.worked_examples.proofs.clashes_at_two_bosses.Goals as goal

pub returns : goal.returns
returns c = record { fails = two_bosses_clash }
