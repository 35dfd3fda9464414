-- The value that the text of a mapping's condition gives for a property or a column of some kind.
-- Source: MSL version 3, Condition and its Value. The forms of the texts are this project's choice.
use Rattle.std.specs.Prelude.{◌≡◌, ℕ, ℤ, pos, negsuc, neg_ℤ, int_le, List, [], ◌∷◌, drop, Bool, true, false, ◌&&◌, ◌||◌, Option, Some, None, option_and_then, option_map, if◌then◌else◌, codes}
use Rattle.std.specs.Str.{all_ascii_digits, bytes_eq}
use Rattle.std.specs.Str.Parse.{digits_value, starts_with_minus}
use Rattle.emc_base.specs.Domain.{InDomain}
use Rattle.emc_base.specs.declared.value.Kind.{Kind}
use Rattle.emc_base.specs.declared.value.Kind.TheVariants as kind
use Rattle.emc_base.specs.declared.value.Value.{Value}
use Rattle.emc_base.specs.declared.value.Value.TheVariants as value

-- the number of decimal digits, at least one; nothing where the text has another form
abbrev pub digits_of : List ℕ → Option ℕ
digits_of [] = None
digits_of (digit ∷ digits) = if all_ascii_digits (digit ∷ digits) then Some (digits_value 10 (digit ∷ digits)) else None

-- the number of decimal digits behind an optional minus, as large as it is written; nothing where the text has another form
abbrev pub number_of : List ℕ → Option ℤ
number_of text =
    if starts_with_minus text then option_map (λ size. neg_ℤ (pos size)) (digits_of (drop 1 text)) else
    option_map pos (digits_of text)

-- the number is one of 64 bits
abbrev pub fits_64 : ℤ → Bool
fits_64 number = int_le (negsuc 9223372036854775807) number && int_le number (pos 9223372036854775807)

-- the number that a text spells, where it is one of 64 bits
abbrev pub whole_of : List ℕ → Option ℤ
whole_of text = option_and_then (λ number. if fits_64 number then Some number else None) (number_of text)

-- true, True or 1; false, False or 0; nothing else is a flag
abbrev pub flag_of : List ℕ → Option Bool
flag_of text =
    if bytes_eq text (codes "true") || bytes_eq text (codes "True") || bytes_eq text (codes "1") then Some true else
    if bytes_eq text (codes "false") || bytes_eq text (codes "False") || bytes_eq text (codes "0") then Some false else None

-- the value that a text gives for a kind, whether it lies in the domain or not: a flag, the text itself, nothing for bytes, or
-- a number of 64 bits
abbrev pub spelled : Kind → List ℕ → Option Value
spelled kind.Boolean text = option_map value.Flag (flag_of text)
spelled (kind.Text bound) text = Some (value.Text text)
spelled (kind.Binary bound) text = None
spelled kind text = option_map value.Whole (whole_of text)

-- the value that a text gives for a kind lies in its domain
abbrev pub IsSpelled : Kind → List ℕ → Value → Type 0
IsSpelled kind text value = (spelled kind text ≡ Some value) × InDomain value kind
