use Rattle.std.proofs.Common.{All, take}
use Rattle.case_laws.specs.candidates.Rows.{shown_rows}
use Rattle.region_states.specs.region_basis.BasisOf.{basis_of}
use Rattle.query_views.specs.First.{IsPassed}
use Rattle.query_views.proofs.views.SetReader.first_among.Given as goal

-- the cases at the places so far aren't met
abbrev pub invariant-loop-place : goal.invariant-loop-place
invariant-loop-place l = All (IsPassed (basis_of l.parts) (shown_rows l.rows) l.cases l.self.readings) (take l.place-index l.places)
