use Rattle.schema_names.proofs.Inherits.{types_left}
use Rattle.msl_meaning.proofs.msl_picks.derived.height.Given as goal

-- how many types are left
abbrev pub decreases-loop-next : goal.decreases-loop-next
decreases-loop-next l = types_left l.names.model.now l.names.inherits l.next
