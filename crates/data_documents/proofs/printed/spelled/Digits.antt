-- The text of bytes in hexadecimal digits is ASCII.
use Rattle.std.proofs.Common.{◌≡◌, ℕ, zero, suc, List, [], ◌∷◌, IsAscii, true, refl, arith, ltb-true}
use Rattle.std.proofs.lemmas.Bool.{and_parts}
use Rattle.json.proofs.Printed.Utf8.{are_ascii}
use Rattle.hex.specs.Hex.{encode_lower, lower_digits}
use Rattle.hex.proofs.HexLemmas.{IsAscii-encode_with}

by_test : (xs : List ℕ) → are_ascii xs ≡ true → IsAscii xs
by_test [] is i = omega arith
by_test (x ∷ xs) is zero = ltb-true x 128 (and_parts _ _ is).0
by_test (x ∷ xs) is (suc i) = by_test xs (and_parts _ _ is).1 i

pub digits_text : (bytes : List ℕ) → IsAscii (encode_lower bytes)
digits_text bytes = IsAscii-encode_with lower_digits bytes (by_test lower_digits refl)
