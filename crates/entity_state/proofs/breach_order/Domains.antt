-- A value is in the domain of a kind, or it isn't.
use Rattle.std.proofs.Common.{◌≡◌, ◌⊎◌, inl, inr, ⊎_elim, ℕ, ◌<◌, ◌≤◌, ℤ, ◌≤ℤ◌, List, [], ◌∷◌, length, All, Contains, Option, Some, None, Bool, true, false, refl, sym, ap, subst, ◌∙◌, arith}
use Rattle.std.specs.Cmp.{eq_by_cmp_equiv, Equal-is, int_cmp_total}
use Rattle.std.specs.FinMap.{int_cmp-IsAntisymmetric}
use Rattle.std.specs.Int.Signed.{clash_ℤ}
use Rattle.std.specs.List.{list_any}
use Rattle.std.specs.Ordering.{eq_by_cmp, int_cmp}
use Rattle.std.specs.Str.{IsUtf8, chars, is_utf8}
use Rattle.std.proofs.lemmas.Bool.{cases_lt}
use Rattle.std.proofs.lemmas.Int.{by_lt_z}
use Rattle.std.proofs.lemmas.List.Elements.{All-head, All-tail, All-cons}
use Rattle.std.proofs.lemmas.Map.Views.{Contains-from_any, list_any-from_Contains}
use Rattle.std.proofs.lemmas.Str.{IsUtf8-from_is_utf8, chars-encodes, is_utf8-from_IsUtf8}
use Rattle.emc_base.specs.Domain.{InDomain, IsBetween, IsByteList, IsText, IsWithin}
use Rattle.round_trip.specs.Types.{Value, Null, Whole, Flag, Text, Bytes, Kind}
use Rattle.emc_base.specs.declared.value.Kind.TheVariants as kind
use Rattle.emc_base.proofs.facts.Tests.{both_decided}

-- it holds, or it doesn't
abbrev pub Decided : Type 0 → Type 0
Decided P = P ⊎ ¬ P

by_test : {P : Type 0} (test : Bool) → (test ≡ true → P) → (P → test ≡ true) → Decided P
by_test true to back = inl (to refl)
by_test false to back = inr (λ holds. absurd (let is = back holds in cc))

upto : (low high : ℤ) → Decided (low ≤ℤ high)
upto low high = by_lt_z {P = Decided (low ≤ℤ high)} high low (λ less. inr (λ fine. clash_ℤ less fine)) (λ fine. inl fine)

between : (low high number : ℤ) → Decided (IsBetween low high number)
between low high number = both_decided (upto low number) (upto number high)

member : (numbers : List ℤ) (number : ℤ) → Decided (Contains numbers number)
member numbers number = by_test (list_any (eq_by_cmp int_cmp number) numbers)
    (Contains-from_any (λ x y tied. int_cmp-IsAntisymmetric x y ((Equal-is (int_cmp x y)).0 tied)) number numbers)
    (list_any-from_Contains (eq_by_cmp_equiv int_cmp_total) number numbers)

within : (bound : Option ℕ) (count : ℕ) → Decided (IsWithin bound count)
within None count = inl tt
within (Some most) count = ⊎_elim (λ (less : most < count). inr (λ (fine : count ≤ most). absurd (omega arith))) (λ (fine : count ≤ most). inl fine) (cases_lt most count)

text : (bound : Option ℕ) (bytes : List ℕ) → Decided (IsText bound bytes)
text bound bytes = by (is_utf8 bytes) refl
  where
    of_characters : (utf8 : IsUtf8 bytes) → Decided (IsWithin bound (length utf8.0)) → Decided (IsText bound bytes)
    of_characters utf8 (inl fine) = inl (record { characters = utf8.0; scalar = utf8.1.0; spelled = utf8.1.1; within = fine })
    of_characters utf8 (inr not) = inr (λ is.
        let same : is.characters ≡ utf8.0 =
        sym (chars-encodes is.characters is.scalar) ∙ ap chars (is.spelled ∙ sym utf8.1.1) ∙ chars-encodes utf8.0 utf8.1.0 in
        not (subst (λ (cs : List ℕ). IsWithin bound (length cs)) same is.within))

    by : (test : Bool) → is_utf8 bytes ≡ test → Decided (IsText bound bytes)
    by true is = let utf8 = IsUtf8-from_is_utf8 bytes is in of_characters utf8 (within bound (length utf8.0))
    by false is = inr (λ some. absurd (let utf8 = is_utf8-from_IsUtf8 bytes (some.characters, (some.scalar, some.spelled)) in cc))

small : (bytes : List ℕ) → Decided (All (λ byte. byte < 256) bytes)
small [] = inl (λ i d below. absurd (omega arith))
small (byte ∷ bytes) = by (cases_lt byte 256) (small bytes)
  where
    Small : ℕ → Type 0
    Small b = b < 256

    by : (byte < 256) ⊎ (256 ≤ byte) → Decided (All Small bytes) → Decided (All Small (byte ∷ bytes))
    by (inl fine) (inl rest) = inl (All-cons Small byte bytes fine rest)
    by (inl fine) (inr not) = inr (λ all. not (All-tail Small byte bytes all))
    by (inr large) rest = inr (λ all. absurd (let fine : byte < 256 = All-head Small byte bytes all in omega arith))

byte_list : (bound : Option ℕ) (bytes : List ℕ) → Decided (IsByteList bound bytes)
byte_list bound bytes = by (small bytes) (within bound (length bytes))
  where
    by : Decided (All (λ byte. byte < 256) bytes) → Decided (IsWithin bound (length bytes)) → Decided (IsByteList bound bytes)
    by (inl all) (inl fine) = inl (record { small = all; within = fine })
    by (inl all) (inr not) = inr (λ is. not is.within)
    by (inr not) other = inr (λ is. not is.small)

never : {P : Type 0} → (P → ⊥) → Decided P
never not = inr not

pub domain_decided : (value : Value) (kind : Kind) → Decided (InDomain value kind)
domain_decided Null kind = inr (λ is. is)
domain_decided (Whole number) kind.Byte = between _ _ number
domain_decided (Whole number) kind.Int16 = between _ _ number
domain_decided (Whole number) kind.Int32 = between _ _ number
domain_decided (Whole number) kind.Int64 = between _ _ number
domain_decided (Whole number) kind.Boolean = inr (λ is. is)
domain_decided (Whole number) (kind.Text bound) = inr (λ is. is)
domain_decided (Whole number) (kind.Binary bound) = inr (λ is. is)
domain_decided (Whole number) (kind.Enum enumeration) = member enumeration.members number
domain_decided (Flag flag) kind.Boolean = inl tt
domain_decided (Flag flag) kind.Byte = inr (λ is. is)
domain_decided (Flag flag) kind.Int16 = inr (λ is. is)
domain_decided (Flag flag) kind.Int32 = inr (λ is. is)
domain_decided (Flag flag) kind.Int64 = inr (λ is. is)
domain_decided (Flag flag) (kind.Text bound) = inr (λ is. is)
domain_decided (Flag flag) (kind.Binary bound) = inr (λ is. is)
domain_decided (Flag flag) (kind.Enum enumeration) = inr (λ is. is)
domain_decided (Text characters) (kind.Text bound) = text bound characters
domain_decided (Text characters) kind.Byte = inr (λ is. is)
domain_decided (Text characters) kind.Int16 = inr (λ is. is)
domain_decided (Text characters) kind.Int32 = inr (λ is. is)
domain_decided (Text characters) kind.Int64 = inr (λ is. is)
domain_decided (Text characters) kind.Boolean = inr (λ is. is)
domain_decided (Text characters) (kind.Binary bound) = inr (λ is. is)
domain_decided (Text characters) (kind.Enum enumeration) = inr (λ is. is)
domain_decided (Bytes bytes) (kind.Binary bound) = byte_list bound bytes
domain_decided (Bytes bytes) kind.Byte = inr (λ is. is)
domain_decided (Bytes bytes) kind.Int16 = inr (λ is. is)
domain_decided (Bytes bytes) kind.Int32 = inr (λ is. is)
domain_decided (Bytes bytes) kind.Int64 = inr (λ is. is)
domain_decided (Bytes bytes) kind.Boolean = inr (λ is. is)
domain_decided (Bytes bytes) (kind.Text bound) = inr (λ is. is)
domain_decided (Bytes bytes) (kind.Enum enumeration) = inr (λ is. is)
