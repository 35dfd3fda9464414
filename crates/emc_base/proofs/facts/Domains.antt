-- What can't but lie in a domain lies in it: counts, whole numbers, texts and byte lists.
use Rattle.std.proofs.Common.{◌≡◌, ⊎_elim, ℕ, ◌<◌, ◌≤◌, ℤ, ◌≤ℤ◌, List, length, get_or, Option, Some, None, sym, ap, subst, ◌∙◌, arith}
use Rattle.std.specs.Int.Signed.{clash_ℤ}
use Rattle.std.specs.Str.{IsUtf8, chars, is_utf8}
use Rattle.std.proofs.lemmas.Bool.{cases_lt}
use Rattle.std.proofs.lemmas.Int.{by_lt_z}
use Rattle.std.proofs.lemmas.Str.{IsUtf8-from_is_utf8, chars-encodes, is_utf8-from_IsUtf8}
use Rattle.emc_base.specs.Domain.{IsBetween, IsByteList, IsText, IsWithin}
use Rattle.emc_base.proofs.Stable.{stable}

-- a count is within a bound
pub within_stable : (bound : Option ℕ) (count : ℕ) → ¬ (¬ IsWithin bound count) → IsWithin bound count
within_stable None count never = tt
within_stable (Some most) count never = ⊎_elim
    (λ (above : most < count). absurd (never (λ within. let least : count ≤ most = within in omega arith)))
    (λ (fine : count ≤ most). fine)
    (cases_lt most count)

-- a whole number is no more than another
pub le_stable : (low high : ℤ) → ¬ (¬ (low ≤ℤ high)) → low ≤ℤ high
le_stable low high never = by_lt_z high low (λ below. absurd (never (λ fine. clash_ℤ below fine))) (λ fine. fine)

pub between_stable : (low high number : ℤ) → ¬ (¬ IsBetween low high number) → IsBetween low high number
between_stable low high number never = (le_stable low number (λ no. never (λ both. no both.0)), le_stable number high (λ no. never (λ both. no both.1)))

-- a text lies in the domain of a bound
pub text_stable : (bound : Option ℕ) (bytes : List ℕ) → ¬ (¬ IsText bound bytes) → IsText bound bytes
text_stable bound bytes never =
    let utf8 : IsUtf8 bytes = stable (is_utf8 bytes) (IsUtf8-from_is_utf8 bytes, is_utf8-from_IsUtf8 bytes) (λ no. never (λ text. no (text.characters, (text.scalar, text.spelled)))) in
    record {
      characters = utf8.0;
      scalar = utf8.1.0;
      spelled = utf8.1.1;
      within = within_stable bound (length utf8.0) (λ no. never (λ text. no (one_spelling text utf8)));
    }
  where
    one_spelling : (text : IsText bound bytes) (utf8 : IsUtf8 bytes) → IsWithin bound (length utf8.0)
    one_spelling text utf8 =
        let same : text.characters ≡ utf8.0 = sym (chars-encodes text.characters text.scalar) ∙ ap chars (text.spelled ∙ sym utf8.1.1) ∙ chars-encodes utf8.0 utf8.1.0 in
        let P : List ℕ → Type 0 = λ characters. IsWithin bound (length characters) in
        subst P same text.within

-- a byte list does
pub bytes_stable : (bound : Option ℕ) (bytes : List ℕ) → ¬ (¬ IsByteList bound bytes) → IsByteList bound bytes
bytes_stable bound bytes never = record {
  small = λ k d inside. ⊎_elim
      (λ (less : get_or bytes k d < 256). less)
      (λ (more : 256 ≤ get_or bytes k d). absurd (never (λ list. let less : get_or bytes k d < 256 = list.small k d inside in omega arith)))
      (cases_lt (get_or bytes k d) 256);
  within = within_stable bound (length bytes) (λ no. never (λ list. no list.within));
}
