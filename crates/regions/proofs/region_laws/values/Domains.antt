-- Whether a value is in the domain of a kind is decided by what is computed.
use Rattle.std.proofs.Common.{◌≡◌, ℕ, ◌<◌, ℤ, pos, negsuc, ◌≤ℤ◌, int_le, nat_lt, T, List, length, chars, All, Contains, Bool, true, false, true≢false, ◌&&◌, Option, Some, None, ◌∙◌, ap, Decides, refl, sym, subst, arith}
use Rattle.std.specs.Int.Signed.{≤ℤ_refl}
use Rattle.std.proofs.lemmas.Int.{ints}
use Rattle.std.specs.List.{list_all, list_any}
use Rattle.std.specs.Str.{is_utf8, IsUtf8}
use Rattle.std.proofs.lemmas.Bool.{le-leb, leb-true}
use Rattle.std.proofs.lemmas.Bool.Decides.{Decides-and, Decides-like, Decides-ltb}
use Rattle.std.proofs.lemmas.Str.{IsUtf8-from_is_utf8, chars-encodes, is_utf8-from_IsUtf8}
use Rattle.emc_base.specs.Domain.{IsByteList, IsText, IsWithin, IsBetween}
use Rattle.round_trip.specs.Words.{Value, Kind, InDomain}
use Rattle.emc_base.specs.declared.value.Value.TheVariants as value
use Rattle.emc_base.specs.declared.value.Kind.TheVariants as kind
use Rattle.schema_laws.proofs.state_demand.lists.Lists.{Decides-all, Decides-any, any_of, of_any}
use Rattle.regions.specs.Fitting.{DecidesDomains, fits, is_between, is_within, same_number}

from_test : (b : Bool) → T b → b ≡ true
from_test true t = refl
from_test false t = absurd t

to_test : (b : Bool) → b ≡ true → T b
to_test true is = tt
to_test false is = absurd (true≢false (sym is))

Decides-le : (low high : ℤ) → Decides (int_le low high) (low ≤ℤ high)
Decides-le low high = (λ told. record { le = to_test (int_le low high) told }, λ le. from_test (int_le low high) le.le)

Decides-between : (low high number : ℤ) → Decides (is_between low high number) (IsBetween low high number)
Decides-between low high number = Decides-and (int_le low number) (int_le number high) (Decides-le low number) (Decides-le number high)

one_number : (one two : ℤ) → one ≤ℤ two → two ≤ℤ one → one ≡ two
one_number one two up down = omega (arith, ints)

Decides-number : (one two : ℤ) → Decides (same_number one two) (one ≡ two)
Decides-number one two = Decides-like (same_number one two)
    (λ (both : (one ≤ℤ two) × (two ≤ℤ one)). one_number one two both.0 both.1)
    (λ same. let P : ℤ → Type 0 = λ n. (one ≤ℤ n) × (n ≤ℤ one) in subst P same (≤ℤ_refl one, ≤ℤ_refl one))
    (Decides-and (int_le one two) (int_le two one) (Decides-le one two) (Decides-le two one))

Decides-within : (bound : Option ℕ) (count : ℕ) → Decides (is_within bound count) (IsWithin bound count)
Decides-within None count = (λ told. tt, λ within. refl)
Decides-within (Some most) count = (leb-true count most, le-leb count most)

-- a text is in the domain of a bound where the count of its characters is within the bound
counted : (bound : Option ℕ) (text : List ℕ) → IsUtf8 text → Decides (is_within bound (length (chars text))) (IsText bound text)
counted bound text utf8 =
    let P : List ℕ → Type 0 = λ cs. IsWithin bound (length cs) in
    let spells : chars text ≡ utf8.0 = ap chars (sym utf8.1.1) ∙ chars-encodes utf8.0 utf8.1.0 in
    Decides-like (is_within bound (length (chars text)))
    (λ within. record { characters = utf8.0; scalar = utf8.1.0; spelled = utf8.1.1; within = subst P spells within })
    (λ is. subst P (sym (ap chars (sym is.spelled) ∙ chars-encodes is.characters is.scalar)) is.within)
    (Decides-within bound (length (chars text)))

Decides-text : (bound : Option ℕ) (text : List ℕ) → Decides (is_utf8 text && is_within bound (length (chars text))) (IsText bound text)
Decides-text bound text = Decides-like (is_utf8 text && is_within bound (length (chars text)))
    (λ (both : IsUtf8 text × IsWithin bound (length (chars text))).
    (counted bound text both.0).0 ((Decides-within bound (length (chars text))).1 both.1))
    (λ is. let utf8 : IsUtf8 text = (is.characters, (is.scalar, is.spelled)) in (utf8, (Decides-within bound (length (chars text))).0 ((counted bound text utf8).1 is)))
    (Decides-and (is_utf8 text) (is_within bound (length (chars text))) (IsUtf8-from_is_utf8 text, is_utf8-from_IsUtf8 text) (Decides-within bound (length (chars text))))

Decides-bytes : (bound : Option ℕ) (bytes : List ℕ) → Decides (list_all (λ byte. nat_lt byte 256) bytes && is_within bound (length bytes)) (IsByteList bound bytes)
Decides-bytes bound bytes = Decides-like (list_all (λ byte. nat_lt byte 256) bytes && is_within bound (length bytes))
    (λ (both : All (λ byte. byte < 256) bytes × IsWithin bound (length bytes)). record { small = both.0; within = both.1 })
    (λ is. (is.small, is.within))
    (Decides-and (list_all (λ byte. nat_lt byte 256) bytes) (is_within bound (length bytes))
    (Decides-all (λ byte. nat_lt byte 256) (λ byte. byte < 256) (λ byte. Decides-ltb byte 256) bytes) (Decides-within bound (length bytes)))

Decides-member : (number : ℤ) (numbers : List ℤ) → Decides (list_any (same_number number) numbers) (Contains numbers number)
Decides-member number numbers = Decides-like (list_any (same_number number) numbers)
    (λ any. let found = of_any (λ other. number ≡ other) numbers any in subst (Contains numbers) (sym found.2) found.1)
    (λ has. any_of (λ other. number ≡ other) numbers number has refl)
    (Decides-any (same_number number) (λ other. number ≡ other) (Decides-number number) numbers)

never : Decides false ⊥
never = (λ told. absurd (true≢false (sym told)), λ none. absurd none)

whole_fits : (number : ℤ) (k : Kind) → Decides (fits (value.Whole number) k) (InDomain (value.Whole number) k)
whole_fits number kind.Byte = Decides-between (pos 0) (pos 255) number
whole_fits number kind.Int16 = Decides-between (negsuc 32767) (pos 32767) number
whole_fits number kind.Int32 = Decides-between (negsuc 2147483647) (pos 2147483647) number
whole_fits number kind.Int64 = Decides-between (negsuc 9223372036854775807) (pos 9223372036854775807) number
whole_fits number kind.Boolean = never
whole_fits number (kind.Text bound) = never
whole_fits number (kind.Binary bound) = never
whole_fits number (kind.Enum enumeration) = Decides-member number enumeration.members

flag_fits : (flag : Bool) (k : Kind) → Decides (fits (value.Flag flag) k) (InDomain (value.Flag flag) k)
flag_fits flag kind.Byte = never
flag_fits flag kind.Int16 = never
flag_fits flag kind.Int32 = never
flag_fits flag kind.Int64 = never
flag_fits flag kind.Boolean = (λ told. tt, λ within. refl)
flag_fits flag (kind.Text bound) = never
flag_fits flag (kind.Binary bound) = never
flag_fits flag (kind.Enum enumeration) = never

text_fits : (text : List ℕ) (k : Kind) → Decides (fits (value.Text text) k) (InDomain (value.Text text) k)
text_fits text kind.Byte = never
text_fits text kind.Int16 = never
text_fits text kind.Int32 = never
text_fits text kind.Int64 = never
text_fits text kind.Boolean = never
text_fits text (kind.Text bound) = Decides-text bound text
text_fits text (kind.Binary bound) = never
text_fits text (kind.Enum enumeration) = never

bytes_fit : (bytes : List ℕ) (k : Kind) → Decides (fits (value.Bytes bytes) k) (InDomain (value.Bytes bytes) k)
bytes_fit bytes kind.Byte = never
bytes_fit bytes kind.Int16 = never
bytes_fit bytes kind.Int32 = never
bytes_fit bytes kind.Int64 = never
bytes_fit bytes kind.Boolean = never
bytes_fit bytes (kind.Text bound) = never
bytes_fit bytes (kind.Binary bound) = Decides-bytes bound bytes
bytes_fit bytes (kind.Enum enumeration) = never

null_fits : (k : Kind) → Decides (fits value.Null k) (InDomain value.Null k)
null_fits kind.Byte = never
null_fits kind.Int16 = never
null_fits kind.Int32 = never
null_fits kind.Int64 = never
null_fits kind.Boolean = never
null_fits (kind.Text bound) = never
null_fits (kind.Binary bound) = never
null_fits (kind.Enum enumeration) = never

Decides-fits : (v : Value) (k : Kind) → Decides (fits v k) (InDomain v k)
Decides-fits value.Null k = null_fits k
Decides-fits (value.Whole number) k = whole_fits number k
Decides-fits (value.Flag flag) k = flag_fits flag k
Decides-fits (value.Text text) k = text_fits text k
Decides-fits (value.Bytes bytes) k = bytes_fit bytes k

pub decides_domains : DecidesDomains fits
decides_domains = record { tells = Decides-fits }
