use Rattle.case_laws.proofs.candidate_laws.FreeCells.{cells_tell}
use Rattle.case_laws.proofs.candidate_laws.cells_tell_free_columns.Goals as goal

pub returns : goal.returns
returns c parts are = record { tells = cells_tell parts are }
