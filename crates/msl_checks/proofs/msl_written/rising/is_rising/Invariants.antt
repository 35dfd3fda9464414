use Rattle.std.proofs.Common.{ℕ, ◌+◌, ◌<◌, Option}
use Rattle.emc_base.specs.Lists.{At}
use Rattle.round_trip.specs.Words.{Pair}
use Rattle.msl_checks.specs.msl_written.Rising.{Rises}
use Rattle.msl_checks.proofs.msl_written.rising.is_rising.Given as goal

-- each that was passed rises to the one behind it
abbrev pub invariant-loop-place : goal.invariant-loop-place
invariant-loop-place l = (k : ℕ) (one other : Option Pair) → k + 1 < l.place → At l.each k one → At l.each (k + 1) other → Rises one other
