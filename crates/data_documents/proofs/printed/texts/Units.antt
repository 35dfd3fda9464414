-- What escapes in strings stand for: characters, spelled by bytes of ASCII.
use Rattle.std.proofs.Common.{◌≡◌, ⊎_elim, ℕ, ◌+◌, ◌*◌, ◌<◌, ◌≤◌, Bool, true, false, cond, ◌&&◌, ◌||◌, ◌==◌, nat_lt, nat_le, [], ◌∷◌, IsUtf8, Some, None, refl, sym, ap, ◌∙◌, arith, le-ltb, lt-ltb, ltb-true, ltb-false, leb-true, le-leb, eqb-true}
use Rattle.std.proofs.lemmas.Bool.{cases_lt, false≢true}
use Rattle.std.proofs.lemmas.Option.{cond_some, none-some, same_Some}
use Rattle.std.specs.Char.{IsScalar, digit_value, is_digit}
use Rattle.json.proofs.Printed.Utf8.{IsUtf8-are_ascii}
use lib.Utf8.{scalar, low_scalar}
use Rattle.json.specs.Text.{code_unit, short_escape, is_high_surrogate, is_low_surrogate, surrogate_pair}

no_digit : (x : ℕ) → 128 ≤ x → digit_value x ≡ 36
no_digit x high =
    let a : 48 ≤ x = omega arith in
    let b : 58 ≤ x = omega arith in
    let c : 65 ≤ x = omega arith in
    let d : 91 ≤ x = omega arith in
    let e : 97 ≤ x = omega arith in
    let f : 123 ≤ x = omega arith in
    rw (le-ltb x 48 a, le-ltb x 58 b, le-ltb x 65 c, le-ltb x 91 d, le-ltb x 97 e, le-ltb x 123 f) refl

digit_small : (x : ℕ) → is_digit x 16 ≡ true → x < 128
digit_small x is = ⊎_elim
    (λ (small : x < 128). small)
    (λ (high : 128 ≤ x). absurd (false≢true (sym (ap (λ n. nat_lt n 16) (no_digit x high)) ∙ is)))
    (cases_lt x 128)

four : (a b c d : Bool) → (a && b && c && d) ≡ true → (a ≡ true) × (b ≡ true) × (c ≡ true) × (d ≡ true)
four true true true true e = (refl, refl, refl, refl)
four true true true false e = absurd (false≢true e)
four true true false d e = absurd (false≢true e)
four true false c d e = absurd (false≢true e)
four false b c d e = absurd (false≢true e)

-- a code unit is spelled by four bytes of ASCII, and has 16 bits
pub record IsUnit (a b c d u : ℕ) : Type 0 where
  pub first : a < 128
  pub second : b < 128
  pub third : c < 128
  pub fourth : d < 128
  pub small : u < 65536

pub unit_is : (a b c d u : ℕ) → code_unit a b c d ≡ Some u → IsUnit a b c d u
unfolding code_unit
unit_is a b c d u is =
    let found = cond_some _ _ u is in
    let all = four (is_digit a 16) (is_digit b 16) (is_digit c 16) (is_digit d 16) found.0 in
    let p : digit_value a < 16 = ltb-true (digit_value a) 16 all.0 in
    let q : digit_value b < 16 = ltb-true (digit_value b) 16 all.1 in
    let r : digit_value c < 16 = ltb-true (digit_value c) 16 all.2 in
    let s : digit_value d < 16 = ltb-true (digit_value d) 16 all.3 in
    let sum : digit_value a * 4096 + digit_value b * 256 + digit_value c * 16 + digit_value d ≡ u = found.1 in
    record { first = digit_small a all.0; second = digit_small b all.1; third = digit_small c all.2; fourth = digit_small d all.3; small = omega (arith, p, q, r, s, sum) }

two : (a b : Bool) → (a && b) ≡ false → a ≡ true → b ≡ false
two true b none is = none
two false b none is = absurd (false≢true is)

both : (a b : Bool) → (a && b) ≡ true → (a ≡ true) × (b ≡ true)
both true b is = (refl, is)
both false b is = absurd (false≢true is)

-- a character from 57344 on
high_scalar : (u : ℕ) → 57344 ≤ u → u < 1114112 → scalar u ≡ true
high_scalar u from below =
    let far : 55296 ≤ u = omega arith in
    rw (le-ltb u 55296 far, le-leb 57344 u from, lt-ltb u 1114112 below) refl

-- a code unit that is no surrogate is a character
pub unit_scalar : (u : ℕ) → u < 65536 → is_high_surrogate u ≡ false → is_low_surrogate u ≡ false → IsScalar u
unit_scalar u small high low = ⊎_elim
    (λ (below : u < 55296). low_scalar u below)
    (λ (from : 55296 ≤ u).
    let past : 56320 ≤ u = ltb-false u 56320 (two (nat_le 55296 u) (nat_lt u 56320) high (le-leb 55296 u from)) in
    let beyond : 57344 ≤ u = ltb-false u 57344 (two (nat_le 56320 u) (nat_lt u 57344) low (le-leb 56320 u past)) in
    high_scalar u beyond (omega (arith, small)))
    (cases_lt u 55296)

-- so is a pair of surrogates
pub pair_scalar : (h l : ℕ) → is_high_surrogate h ≡ true → is_low_surrogate l ≡ true → IsScalar (surrogate_pair h l)
pair_scalar h l high low =
    let of_high = both (nat_le 55296 h) (nat_lt h 56320) high in
    let of_low = both (nat_le 56320 l) (nat_lt l 57344) low in
    let a : 55296 ≤ h = leb-true 55296 h of_high.0 in
    let b : h < 56320 = ltb-true h 56320 of_high.1 in
    let c : 56320 ≤ l = leb-true 56320 l of_low.0 in
    let d : l < 57344 = ltb-true l 57344 of_low.1 in
    high_scalar (surrogate_pair h l) (omega (arith, a, b, c, d)) (omega (arith, a, b, c, d))

is_small : (x k : ℕ) → k < 128 → (x == k) ≡ true → x < 128
is_small x k small e = let same : x ≡ k = eqb-true x k e in omega (arith, same, small)

one_of : (x : ℕ) (a b c : Bool) → (a ≡ true → x < 128) → (b ≡ true → x < 128) → (c ≡ true → x < 128) → (a || b || c) ≡ true → x < 128
one_of x true b c p q r e = p refl
one_of x false true c p q r e = q refl
one_of x false false true p q r e = r refl
one_of x false false false p q r e = absurd (false≢true e)

escape_by : (x c : ℕ) (p q r s t u : Bool) → (p ≡ true → x < 128) → (q ≡ true → x < 128) → (r ≡ true → x < 128) → (s ≡ true → x < 128) → (t ≡ true → x < 128) → (u ≡ true → x < 128)
    → cond p (Some x) (cond q (Some 8) (cond r (Some 12) (cond s (Some 10) (cond t (Some 13) (cond u (Some 9) None))))) ≡ Some c → (x < 128) × (c < 128)
escape_by x c true q r s t u h1 h2 h3 h4 h5 h6 is = let same : x ≡ c = same_Some x c is in let low : x < 128 = h1 refl in (low, omega (arith, same, low))
escape_by x c false true r s t u h1 h2 h3 h4 h5 h6 is = let same : 8 ≡ c = same_Some 8 c is in (h2 refl, omega (arith, same))
escape_by x c false false true s t u h1 h2 h3 h4 h5 h6 is = let same : 12 ≡ c = same_Some 12 c is in (h3 refl, omega (arith, same))
escape_by x c false false false true t u h1 h2 h3 h4 h5 h6 is = let same : 10 ≡ c = same_Some 10 c is in (h4 refl, omega (arith, same))
escape_by x c false false false false true u h1 h2 h3 h4 h5 h6 is = let same : 13 ≡ c = same_Some 13 c is in (h5 refl, omega (arith, same))
escape_by x c false false false false false true h1 h2 h3 h4 h5 h6 is = let same : 9 ≡ c = same_Some 9 c is in (h6 refl, omega (arith, same))
escape_by x c false false false false false false h1 h2 h3 h4 h5 h6 is = absurd (none-some c is)

-- the byte behind a backslash and what it stands for are of ASCII
pub short_small : (x c : ℕ) → short_escape x ≡ Some c → (x < 128) × (c < 128)
unfolding short_escape
short_small x c is =
    escape_by x c ((x == 34) || (x == 92) || (x == 47)) (x == 98) (x == 102) (x == 110) (x == 114) (x == 116)
    (one_of x (x == 34) (x == 92) (x == 47) (is_small x 34 (omega arith)) (is_small x 92 (omega arith)) (is_small x 47 (omega arith)))
    (is_small x 98 (omega arith)) (is_small x 102 (omega arith)) (is_small x 110 (omega arith)) (is_small x 114 (omega arith)) (is_small x 116 (omega arith)) is

-- a byte of ASCII is a text
pub one_byte : (c : ℕ) → c < 128 → IsUtf8 (c ∷ [])
one_byte c small = IsUtf8-are_ascii (c ∷ []) (ap (λ b. b && true) (lt-ltb c 128 small))
