use Rattle.std.proofs.Common.{◌<◌, ℕ}
use Rattle.emc_base.specs.Lists.{At}
use Rattle.groupings.specs.name_places.GivenNames.{IsGivenBefore}
use Rattle.groupings.proofs.name_places.once.stand_first.Given as goal

-- the items that were passed are the first of their names
abbrev pub invariant-loop-place : goal.invariant-loop-place
invariant-loop-place g l = (j : ℕ) (item : g.row.T.Denot) → At l.items j item → j < l.place → ¬ IsGivenBefore g.T.Named.name_in l.items j item
