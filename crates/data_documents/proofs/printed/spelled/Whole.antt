-- Trees of which each part is spelled as a text that tells it.
use Rattle.std.proofs.Common.{◌≡◌, ℕ, suc, ◌-◌, ◌<◌, ◌^◌, ◌==◌, negsuc, false, cond, List, [], ◌∷◌, get_or, drop, IsUtf8, Some, Ordering, Less, Equal, Greater, decimal, option_and_then, refl, sym, ap, ◌∙◌, arith, ne_eqb}
use Rattle.std.proofs.lemmas.Fmt.{IsAscii-decimal, first_decimal}
use Rattle.std.proofs.lemmas.Str.{IsUtf8-append, IsUtf8-from_ascii}
use Rattle.std.specs.Prelude.{⊤}
use Rattle.std.specs.Ordering.{match_ordering, nat_cmp}
use Rattle.std.specs.Cmp.Lexicographic.{slice_cmp}
use Rattle.json.specs.Print.{IsNumber}
use Rattle.json.specs.Word.{head, after_whole, after_fraction, after_exponent, after_number}
use Rattle.json.proofs.Printed.Utf8.{IsUtf8-are_ascii}
use Rattle.json.proofs.Printed.Decimals.{IsNumber-decimal}
use Rattle.serde_json.specs.Data.{Num, unsigned, negative, Data, null, boolean, number, string, array, object, Items, no_items, item, Members, no_members, member, put}
use Rattle.serde_json.specs.Read.{number_of}
use Rattle.serde_json.specs.Written.{number_text}
use Rattle.serde_json.proofs.Numbers.{number_of-decimal, number_of-negative}
use Rattle.data_documents.proofs.printed.spelled.Rising.{IsRising}

-- the text of a number is one of JSON, and tells the number
pub record IsTold (n : Num) : Type 0 where
  pub is_number : IsNumber (number_text n)
  pub told : number_of (number_text n) ≡ Some n
  pub text : IsUtf8 (number_text n)

pub told_unsigned : (n : ℕ) → n < 2 ^ 64 → IsTold (unsigned n)
told_unsigned n small = record { is_number = IsNumber-decimal n small; told = number_of-decimal n small; text = IsUtf8-from_ascii (decimal n) (IsAscii-decimal n small) }

no_minus : (ds : List ℕ) → 48 < get_or ds 0 0 → (head ds == 45) ≡ false
no_minus [] first = absurd (omega arith)
no_minus (d ∷ ds) first = ne_eqb d 45 (λ e. omega arith)

negative_number : (ds : List ℕ) → 48 < get_or ds 0 0 → IsNumber ds → IsNumber (45 ∷ ds)
unfolding after_number
negative_number ds first is =
    ap (λ b. option_and_then after_exponent (option_and_then after_fraction (after_whole (cond b (drop 1 ds) ds)))) (sym (no_minus ds first)) ∙ is

pub told_negative : (n : ℕ) → n < 2 ^ 63 → IsTold (negative (negsuc n))
told_negative n small =
    let more : suc n < 2 ^ 64 = omega arith in
    record {
      is_number = negative_number (decimal (suc n)) (first_decimal (suc n) (omega arith) more) (IsNumber-decimal (suc n) more);
      told = number_of-negative n small;
      text = IsUtf8-append (45 ∷ []) (decimal (suc n)) (IsUtf8-are_ascii (45 ∷ []) refl) (IsUtf8-from_ascii (decimal (suc n)) (IsAscii-decimal (suc n) more));
    }

-- numbers are told, texts are UTF-8, members stand in order, and nothing nests deeper than this
abbrev mutual
  pub IsWhole : ℕ → Data → Type 0
  IsWhole n null = ⊤
  IsWhole n (boolean b) = ⊤
  IsWhole n (number x) = IsTold x
  IsWhole n (string s) = IsUtf8 s
  IsWhole n (array ds) = (0 < n) × AreWhole (n - 1) ds
  IsWhole n (object ms) = (0 < n) × HaveWhole (n - 1) ms × IsRising ms

  pub AreWhole : ℕ → Items → Type 0
  AreWhole n no_items = ⊤
  AreWhole n (item d ds) = IsWhole n d × AreWhole n ds

  pub HaveWhole : ℕ → Members → Type 0
  HaveWhole n no_members = ⊤
  HaveWhole n (member k d ms) = IsUtf8 k × IsWhole n d × HaveWhole n ms

pub have_put : (n : ℕ) (k : List ℕ) (d : Data) (ms : Members) → IsUtf8 k → IsWhole n d → HaveWhole n ms → HaveWhole n (put k d ms)
have_put n k d no_members text whole have = (text, whole, tt)
have_put n k d (member l e ms) text whole have = by (slice_cmp nat_cmp k l) (have_put n k d ms text whole have.2)
  where
    by : (o : Ordering) → HaveWhole n (put k d ms) → HaveWhole n (match_ordering o (member k d (member l e ms)) (member l d ms) (member l e (put k d ms)))
    by Less later = (text, whole, have)
    by Equal later = (have.0, whole, have.2)
    by Greater later = (have.0, have.1, later)
