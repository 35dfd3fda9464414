-- Numbers that stand for chance: a linear congruential sequence modulo 65,537, so that one seed always gives the same documents.
use Rattle.std.specs.Prelude.{ℕ, zero, suc, ◌+◌, ◌*◌, ◌%◌}

-- the draw that follows another
abbrev pub draw_after : ℕ → ℕ
draw_after x = (75 * x + 74) % 65537

-- the draw of a place: the seed's remainder before the first place, and then each by the one before it
abbrev pub draw : ℕ → ℕ → ℕ
draw seed zero = seed % 65537
draw seed (suc i) = draw_after (draw seed i)
