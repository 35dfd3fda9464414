use Rattle.region_states.specs.region_basis.BasisOf.{basis_of}
use Rattle.query_cases.proofs.case_reading.Turns.{Below, CellMay}
use Rattle.query_cases.proofs.case_reading.meeting.may_hold_cells.Given as goal

-- the cells so far may hold their values
abbrev pub invariant-loop-i : goal.invariant-loop-i
invariant-loop-i l = Below (CellMay (basis_of l.parts) l.region l.cells l.held) l.i
