use Rattle.query_cases.proofs.case_reading.Parts.{LacksPart}
use Rattle.query_cases.proofs.case_reading.Turns.{Below}
use Rattle.query_cases.proofs.case_reading.links.part_place.Given as goal

-- the rows so far don't show it
abbrev pub invariant-loop-row : goal.invariant-loop-row
invariant-loop-row l = Below (LacksPart l.case.rows l.assoc l.property) l.row
