-- Which values may stand in a property or a column, by its kind and whether it may be null.
use Rattle.std.proofs.Common.{◌≡◌, ◌⊎◌, inl, inr, ℕ, ◌<◌, ◌≤◌, List, [], ◌∷◌, ◌++◌, ◌&&◌, Option, Some, Bool, refl, sym, ap, ◌∙◌, arith, IsTrue}
use Rattle.std.proofs.lemmas.Int.{ints}
use Rattle.std.proofs.lemmas.Str.{chars-encodes, encode_ascii}
use lib.Utf8.{low_scalar}
use Rattle.std.specs.Prelude.{pos, true, codes, length, replicate}
use Rattle.std.specs.Str.{chars}
use Rattle.round_trip.specs.Words.{Value, Null, Whole, Text, Kind, InDomain}
use Rattle.emc_base.specs.declared.value.Kind.TheVariants as kind
use Rattle.emc_base.specs.Domain.{IsText}
use Rattle.worked_examples.specs.people.People.{accented}

-- the value may stand where values are of the kind, and null or not
pub record FitsIn (kind : Kind) (nullable : Bool) (value : Value) : Type 0 where
  pub null : value ≡ Null → IsTrue nullable
  pub domain : (value ≡ Null) ⊎ InDomain value kind

pub null_fits : (kind : Kind) → FitsIn kind true Null
null_fits kind = record { null = λ none. refl; domain = inl refl }

-- a whole number that isn't negative is an Int32, and an Int16, where it isn't too large
pub whole_fits : (nullable : Bool) (n : ℕ) → n ≤ 2147483647 → FitsIn kind.Int32 nullable (Whole (pos n))
whole_fits nullable n below = record { null = λ none. absurd (cc); domain = inr (omega (arith, ints), omega (arith, ints)) }

pub short_fits : (nullable : Bool) (n : ℕ) → n ≤ 32767 → FitsIn kind.Int16 nullable (Whole (pos n))
short_fits nullable n below = record { null = λ none. absurd (cc); domain = inr (omega (arith, ints), omega (arith, ints)) }

pub text_fits : (nullable : Bool) (bound : Option ℕ) (bytes : List ℕ) → IsText bound bytes → FitsIn (kind.Text bound) nullable (Text bytes)
text_fits nullable bound bytes text = record { null = λ none. absurd (cc); domain = inr text }

-- one ASCII character is a text of any bound but zero
pub one_character : (most c : ℕ) → c < 128 → 1 ≤ most → IsText (Some most) (c ∷ [])
one_character most c ascii fits = record {
  characters = c ∷ [];
  scalar = ap (λ is. is && true) (low_scalar c (omega (arith, ascii)));
  spelled = ap (λ bytes. bytes ++ []) (encode_ascii c ascii);
  within = fits;
}

-- a letter may be a name
pub text_a : IsText (Some 20) (codes "a")
text_a = one_character 20 97 (omega arith) (omega arith)

pub text_b : IsText (Some 20) (codes "b")
text_b = one_character 20 98 (omega arith) (omega arith)

pub text_c : IsText (Some 20) (codes "c")
text_c = one_character 20 99 (omega arith) (omega arith)

-- the letters of kinds
pub text_p : IsText (Some 1) (codes "P")
text_p = one_character 1 80 (omega arith) (omega arith)

pub text_e : IsText (Some 1) (codes "E")
text_e = one_character 1 69 (omega arith) (omega arith)

pub text_20 : IsText (Some 20) (accented 20)
unfolding lib.Utf8.encode
text_20 = record { characters = replicate 20 233; scalar = refl; spelled = refl; within = omega arith }

pub no_text_21 : ¬ IsText (Some 20) (accented 21)
unfolding chars
no_text_21 text =
    let spells : chars (accented 21) ≡ text.characters = ap chars (sym text.spelled) ∙ chars-encodes text.characters text.scalar in
    let count : length (chars (accented 21)) ≡ length text.characters = ap length spells in
    let within : length text.characters ≤ 20 = text.within in
    absurd (omega arith)
