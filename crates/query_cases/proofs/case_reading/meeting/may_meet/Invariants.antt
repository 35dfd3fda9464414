use Rattle.case_laws.specs.candidates.Rows.{shown_rows}
use Rattle.region_states.specs.region_basis.BasisOf.{basis_of}
use Rattle.query_cases.proofs.case_reading.Turns.{Below, MayRow, PairSo}
use Rattle.query_cases.proofs.case_reading.meeting.may_meet.Given as goal

-- the rows so far may meet the case's rows
abbrev pub invariant-loop-i : goal.invariant-loop-i
invariant-loop-i l = Below (PairSo (MayRow (basis_of l.parts) l.case.region) l.case.rows (shown_rows l.rows)) l.i
