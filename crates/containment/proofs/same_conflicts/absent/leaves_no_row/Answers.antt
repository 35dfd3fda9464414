use Rattle.containment.proofs.same_conflicts.Lists.{no_item}
use Rattle.containment.proofs.same_conflicts.absent.leaves_no_row.Goals as goal

pub returns : goal.returns
returns c = no_item c.args.one.now.pattern.rows c.is_empty.result c.is_empty.ensures
