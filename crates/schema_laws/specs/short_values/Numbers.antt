-- Numbers in a row, and the values that numbers make.
-- Source: the simple types of CSDL version 3.
use Rattle.std.specs.Prelude.{ℕ, zero, suc, pos, List, [], ◌∷◌, encode_utf8_all}
use Rattle.emc_base.specs.declared.value.Value.TheVariants as value
use Rattle.round_trip.specs.Words.{Value, Whole}

-- so many numbers, each one more than the one before it
abbrev pub numbers_from : ℕ → ℕ → List ℕ
numbers_from first zero = []
numbers_from first (suc more) = first ∷ numbers_from (suc first) more

-- a whole number that isn't negative
abbrev pub number : ℕ → Value
number natural = Whole (pos natural)

-- the text of one character
abbrev pub letter : ℕ → Value
letter code = value.Text (encode_utf8_all (code ∷ []))
