use Rattle.std.proofs.Common.{◌<◌, ℕ}
use Rattle.round_trip.specs.Words.{Column}
use Rattle.emc_base.specs.Lists.{At}
use Rattle.groupings.specs.name_places.GivenNames.{IsGivenBefore}
use Rattle.schema_names.proofs.columns.stand_first.Given as goal

-- the columns that were passed are the first of their names
abbrev pub invariant-loop-place : goal.invariant-loop-place
invariant-loop-place l = (j : ℕ) (col : Column) → At l.cols j col → j < l.place → ¬ IsGivenBefore (λ one. one.name) l.cols j col
