use Rattle.std.proofs.Common.{◌<◌}
use Rattle.round_trip.specs.Words.{PropId}
use Rattle.round_trip.specs.soundness.mappings.Joined.{prop}
use Rattle.cells.specs.Limits.{HasFewConstants}
use Rattle.cells.specs.Parts.{schema_in}
use Rattle.cells.proofs.limits.have_few_constants.Given as goal

-- the groups of the properties that were passed haven't too many
abbrev pub invariant-loop-place : goal.invariant-loop-place
invariant-loop-place l = (p : PropId) → p.index < l.place → HasFewConstants (schema_in l.parts) (prop p)
