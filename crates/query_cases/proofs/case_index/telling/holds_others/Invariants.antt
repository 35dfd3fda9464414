use Rattle.std.proofs.Common.{Contains}
use Rattle.region_states.specs.region_basis.BasisOf.{basis_of}
use Rattle.query_cases.specs.case_cells.Holding.{MayHold}
use Rattle.query_cases.proofs.case_index.telling.holds_others.Given as goal

-- a known value that the cell may hold is still to come
abbrev pub invariant-loop-value : goal.invariant-loop-value
invariant-loop-value l = (value : _) → MayHold (basis_of l.parts) l.region l.cell value → Contains l.initial.value-iterator value → Contains l.value-iterator value
