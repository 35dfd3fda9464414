use Rattle.region_states.proofs.focus.Demanded.{row_of_one}
use Rattle.region_states.proofs.focus.Listed.{row_joined}
use Rattle.region_states.proofs.focus_laws.no_other_row_is_demanded.Goals as goal

pub returns-clause-each : goal.returns-clause-each
returns-clause-each c = row_of_one

pub returns-clause-joined : goal.returns-clause-joined
returns-clause-joined c = row_joined
