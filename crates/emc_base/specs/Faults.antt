-- Counts of faults: a fault is told only where the count rose in the call, or stands at its last value.
use Rattle.std.specs.Prelude.{ℕ, ◌+◌, ◌-◌, ◌^◌, ◌≤◌, min}

-- the last value of a count
abbrev pub last_count : ℕ
last_count = 2 ^ 64 - 1

-- one more, up to the last value
abbrev pub one_more : ℕ → ℕ
one_more count = min (count + 1) last_count

-- the count rose, or it stands at its last value
abbrev pub RoseOrStands : ℕ → ℕ → Type 0
RoseOrStands before now = one_more before ≤ now
