use Rattle.std.proofs.Common.{◌≡◌, List, ℕ, take}
use Rattle.msl_checks.specs.msl_link_rules.WrittenColumns.{end_in, first_writing}
use Rattle.msl_checks.proofs.msl_link_rules.columns.WrittenColumns.of.Given as goal

-- the columns of the ends that were passed have their ends
abbrev pub invariant-loop-place : goal.invariant-loop-place
invariant-loop-place l = (col : List ℕ) → end_in l.columns col ≡ first_writing (take l.place l.ends) col
