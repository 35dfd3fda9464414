use Rattle.std.proofs.Common.{All}
use Rattle.region_states.specs.region_basis.BasisOf.{basis_of}
use Rattle.query_cases.specs.case_index.Telling.{Tells}
use Rattle.query_cases.proofs.case_index.telling.telling_columns.Given as goal

-- the columns so far tell the cases apart
abbrev pub invariant-loop-spot : goal.invariant-loop-spot
invariant-loop-spot l = All (λ one. Tells (basis_of l.parts) l.cases one.0 one.1) l.telling.items
