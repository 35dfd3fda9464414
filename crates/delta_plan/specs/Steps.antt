-- Steps that are counted up to the last value of a count.
-- Source: this project's.
use Rattle.std.specs.Prelude.{◌≡◌, ◌≤◌, ℕ, zero, suc}
use Rattle.emc_base.specs.Faults.{one_more}

-- a count after some steps
abbrev pub raised : ℕ → ℕ → ℕ
raised zero count = count
raised (suc steps) count = raised steps (one_more count)

-- some steps were counted, so many at most
pub record RoseAtMost (most before now : ℕ) : Type 0 where
  pub steps : ℕ
  pub few : steps ≤ most
  pub is : now ≡ raised steps before
