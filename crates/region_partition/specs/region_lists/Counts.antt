-- Numbers that are counted up to a bound.
-- Source: the limit of this project's profile on the regions of a set.
use Rattle.std.specs.Prelude.{ℕ, min}

-- the number, or the most that is counted
abbrev pub capped : ℕ → ℕ
capped number = min number 1048576
