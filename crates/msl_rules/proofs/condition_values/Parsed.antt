-- What `parse` answers of a text is the number that the text spells, where it is one of 64 bits.
use Rattle.std.proofs.Common.{rules, ◌≡◌, ◌≢◌, ◌↔◌, ℕ, ℤ, pos, negsuc, neg_ℤ, List, [], ◌∷◌, drop, slice_index, Bool, true, false, cond, Option, Some, None, option_and_then, option_map, if◌then◌else◌, FitsSigned, refl, sym, ap, subst, ◌∙◌, arith}
use Rattle.std.specs.Int.{w64}
use Rattle.std.specs.Result.{result_ok}
use Rattle.std.specs.declared.result.Result.{Result}
use Rattle.std.specs.declared.result.Result.TheVariants.{Ok, Err}
use Rattle.std.specs.Str.{all_ascii_digits}
use Rattle.std.specs.Str.Parse.{IsNumeral, ParsesSigned, digits_value, signed_digits_value, starts_with_minus, without_leading_plus, without_leading_sign}
use Rattle.std.proofs.lemmas.Bool.{both_ways}
use Rattle.std.proofs.lemmas.Option.{none-some, same_Some}
use Rattle.std.proofs.lemmas.Str.Parse.{IsNumeralModel, numerals_by_value, tells_all_ascii_digits, without_leading_plus_none}
use Rattle.msl_rules.specs.condition_values.Spelled.{digits_of, fits_64, number_of, whole_of}

-- the test on digits is that of std
tested : IsNumeralModel (λ ds. all_ascii_digits ds ≡ true) (digits_value 10)
tested = numerals_by_value (λ ds. all_ascii_digits ds ≡ true) tells_all_ascii_digits

-- what is made of the number of some digits is given exactly where they are a numeral
digits_given : (make : ℕ → ℤ) (ds : List ℕ) (number : ℤ)
    → ((option_map make (digits_of ds) ≡ Some number) ↔ (IsNumeral 10 ds × (make (digits_value 10 ds) ≡ number)))
digits_given make [] number = ((λ given. cc), (λ numeral. absurd (omega (arith, numeral.0.0))))
digits_given make (d ∷ ds) number = by_test (all_ascii_digits (d ∷ ds)) refl
  where
    Given : Bool → Type 0
    Given test = (option_map make (if test then Some (digits_value 10 (d ∷ ds)) else None) ≡ Some number) ↔ (IsNumeral 10 (d ∷ ds) × (make (digits_value 10 (d ∷ ds)) ≡ number))

    by_test : (test : Bool) → all_ascii_digits (d ∷ ds) ≡ test → Given test
    by_test true pass = ((λ given. ((omega arith, tested.to (d ∷ ds) pass), cc)), (λ numeral. ap Some numeral.1))
    by_test false fail = ((λ given. cc), (λ numeral. let pass = tested.from (d ∷ ds) numeral.0.1 in cc))

-- a text that doesn't begin with a plus spells a number exactly where it is a numeral behind its sign
number_given : (text : List ℕ) → slice_index text 0 ≢ 43 → (number : ℤ)
    → ((number_of text ≡ Some number) ↔ (IsNumeral 10 (without_leading_sign text) × (signed_digits_value 10 text ≡ number)))
number_given text plain number = by_sign (starts_with_minus text)
  where
    digits : Bool → List ℕ
    digits minus = cond minus (drop 1 text) (without_leading_plus text)

    signed : Bool → ℤ
    signed minus = cond minus (neg_ℤ (pos (digits_value 10 (digits minus)))) (pos (digits_value 10 (digits minus)))

    written : Bool → Option ℤ
    written minus = if minus then option_map (λ size. neg_ℤ (pos size)) (digits_of (drop 1 text)) else option_map pos (digits_of text)

    by_sign : (minus : Bool) → ((written minus ≡ Some number) ↔ (IsNumeral 10 (digits minus) × (signed minus ≡ number)))
    by_sign true = digits_given (λ size. neg_ℤ (pos size)) (drop 1 text) number
    by_sign false =
        let P : List ℕ → Type 0 = λ ds. (option_map pos (digits_of text) ≡ Some number) ↔ (IsNumeral 10 ds × (pos (digits_value 10 ds) ≡ number)) in
        subst P (sym (without_leading_plus_none text plain)) (digits_given pos text number)

-- what `parse` answers of a text that doesn't begin with a plus, number by number
number_given_by : {E : Type 0} (text : List ℕ) (r : Result ℤ E) → ParsesSigned w64 10 text r → slice_index text 0 ≢ 43 → (number : ℤ)
    → ((result_ok r ≡ Some number) ↔ ((number_of text ≡ Some number) × FitsSigned w64 number))
number_given_by text (Ok x) (read, is) plain number =
    let law = number_given text plain number in (
      (λ answered. let same : signed_digits_value 10 text ≡ number = cc in (law.1 (read.0, same), subst (FitsSigned w64) same read.1)),
      (λ given. let same = (law.0 given.0).1 in ap Some (is ∙ same)),
    )
number_given_by text (Err e) refused plain number =
    let law = number_given text plain number in (
      (λ answered. cc),
      (λ given. let numeral = law.0 given.0 in absurd (refused (numeral.0, subst (FitsSigned w64) (sym numeral.1) given.1))),
    )

-- the test tells which numbers are of 64 bits
told_64 : (number : ℤ) → (fits_64 number ≡ true) ↔ FitsSigned w64 number
told_64 (pos size) = (λ pass. search (rules, arith), λ fits. search (rules, arith))
told_64 (negsuc size) = (λ pass. search (rules, arith), λ fits. search (rules, arith))

-- what is found is the number that is written, where it is one of 64 bits
kept_64 : (written found : Option ℤ) → ((number : ℤ) → ((found ≡ Some number) ↔ ((written ≡ Some number) × FitsSigned w64 number)))
    → found ≡ option_and_then (λ number. if fits_64 number then Some number else None) written
kept_64 None None law = refl
kept_64 None (Some other) law = let given = (law other).0 refl in absurd (none-some other given.0)
kept_64 (Some number) found law = by_test (fits_64 number) refl
  where
    Kept : Bool → Type 0
    Kept test = found ≡ (if test then Some number else None)

    none_kept : (o : Option ℤ) → found ≡ o → fits_64 number ≡ false → o ≡ None
    none_kept None is fail = refl
    none_kept (Some other) is fail =
        let given = (law other).0 is in
        let Fits : ℤ → Type 0 = λ n. FitsSigned w64 n in
        absurd (both_ways (fits_64 number) fail ((told_64 number).1 (subst Fits (sym (same_Some number other given.0)) given.1)))

    by_test : (test : Bool) → fits_64 number ≡ test → Kept test
    by_test true pass = (law number).1 (refl, (told_64 number).0 pass)
    by_test false fail = none_kept found refl fail

-- what `parse` answers of a text that doesn't begin with a plus
pub number_parsed : {E : Type 0} (text : List ℕ) (r : Result ℤ E) → ParsesSigned w64 10 text r → slice_index text 0 ≢ 43 → result_ok r ≡ whole_of text
number_parsed text r parses plain = kept_64 (number_of text) (result_ok r) (number_given_by text r parses plain)
