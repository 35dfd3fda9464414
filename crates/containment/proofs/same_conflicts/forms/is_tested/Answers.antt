use Rattle.cells.proofs.Covering.{covers_store}
use Rattle.containment.proofs.same_conflicts.forms.is_tested.Goals as goal

pub group_of_col-requires : goal.group_of_col-requires
group_of_col-requires c = (covers_store c.args.parts.now c.requires.parts).groups c.args.table c.args.column c.requires.there
