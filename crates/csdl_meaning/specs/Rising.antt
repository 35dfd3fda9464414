-- Numbers in rising order, each once.
use Rattle.std.specs.Prelude.{ℤ, List, [], ◌∷◌, if◌then◌else◌}
use Rattle.std.specs.Ordering.{int_cmp, is_eq, is_lt}

-- a number put among rising ones, where it isn't there
abbrev pub with_number : ℤ → List ℤ → List ℤ
with_number number [] = number ∷ []
with_number number (first ∷ rest) =
    if is_lt (int_cmp number first) then number ∷ first ∷ rest else
    if is_eq (int_cmp number first) then first ∷ rest else first ∷ with_number number rest

-- numbers in rising order, each once
abbrev pub rising : List ℤ → List ℤ
rising [] = []
rising (number ∷ numbers) = with_number number (rising numbers)
