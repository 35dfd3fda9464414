use Rattle.mapping_core.proofs.Comparing.{legal_apart}
use Rattle.probe.proofs.changes.planned.put_between.Goals as goal

pub plan_rows-requires : goal.plan_rows-requires
plan_rows-requires c = record {
  sound = c.requires.sound;
  old_tables = c.requires.old.shape;
  new_tables = c.requires.new.shape;
  old_apart = legal_apart c.args.store.now c.args.old.now c.requires.old;
  new_apart = legal_apart c.args.store.now c.args.new.now c.requires.new;
}
