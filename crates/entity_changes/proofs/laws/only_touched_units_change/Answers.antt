use Rattle.entity_changes.proofs.touched.Units.{differ_only}
use Rattle.entity_changes.proofs.laws.only_touched_units_change.Goals as goal

pub returns : goal.returns
returns c = differ_only
