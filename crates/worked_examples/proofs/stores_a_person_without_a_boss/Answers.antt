use Rattle.worked_examples.proofs.bosses.NoBoss as bossless
use Rattle.worked_examples.proofs.stores_a_person_without_a_boss.Goals as goal

pub returns : goal.returns
returns c = record { null = bossless.null_demanded; shown = bossless.shown; demanded = bossless.stored; satisfied = bossless.satisfied }
