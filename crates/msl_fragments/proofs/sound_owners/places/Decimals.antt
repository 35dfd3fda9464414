-- Decimal numbers in texts: they are told apart, also in front of what begins with no digit.
use Rattle.std.proofs.Common.{◌≡◌, ℕ, ◌<◌, ◌^◌, List, [], ◌∷◌, ◌++◌, decimal, refl, sym, subst, arith}
use Rattle.std.specs.Bool.{⊤}
use Rattle.std.specs.Char.{digit_value}
use Rattle.std.specs.Str.Parse.{AllDigits}
use Rattle.std.proofs.lemmas.Fmt.{decimal_injective, decimal_is_IsNumeral}

-- nothing, or what begins with no digit
abbrev pub EndsNumber : List ℕ → Type 0
EndsNumber [] = ⊤
EndsNumber (c ∷ cs) = ¬ (digit_value c < 10)

-- digits and what follows them
pub split_digits : (ds es xs ys : List ℕ) → AllDigits 10 ds → AllDigits 10 es → EndsNumber xs → EndsNumber ys → ds ++ xs ≡ es ++ ys → (ds ≡ es) × (xs ≡ ys)
split_digits [] [] xs ys first second end other same = (refl, same)
split_digits [] (e ∷ es) xs ys first second end other same = absurd (subst EndsNumber same end second.0)
split_digits (d ∷ ds) [] xs ys first second end other same = absurd (subst EndsNumber (sym same) other first.0)
split_digits (d ∷ ds) (e ∷ es) xs ys first second end other same =
    let head : d ≡ e = cc in
    let tail : ds ++ xs ≡ es ++ ys = cc in
    let rest = split_digits ds es xs ys first.1 second.1 end other tail in
    ((λ i. head i ∷ rest.0 i), rest.1)

-- a number and what follows it
pub split_number : (m n : ℕ) (xs ys : List ℕ) → m < 2 ^ 32 → n < 2 ^ 32 → EndsNumber xs → EndsNumber ys → decimal m ++ xs ≡ decimal n ++ ys → (m ≡ n) × (xs ≡ ys)
split_number m n xs ys few less end other same =
    let m_fits : m < 2 ^ 64 = omega arith in
    let n_fits : n < 2 ^ 64 = omega arith in
    let parts = split_digits (decimal m) (decimal n) xs ys (decimal_is_IsNumeral m m_fits).0.1 (decimal_is_IsNumeral n n_fits).0.1 end other same in
    (decimal_injective m n m_fits n_fits parts.0, parts.1)
