use Rattle.std.proofs.Common.{take}
use Rattle.std.specs.List.{AllZip}
use Rattle.region_states.specs.region_basis.BasisOf.{basis_of}
use Rattle.query_cases.specs.case_reading.Reading.{IsReadingOf}
use Rattle.query_views.proofs.making.readings_of.Given as goal

-- the cases so far are read so
abbrev pub invariant-loop-case : goal.invariant-loop-case
invariant-loop-case l = AllZip (IsReadingOf (basis_of l.parts)) (take l.case-index l.cases) l.readings
