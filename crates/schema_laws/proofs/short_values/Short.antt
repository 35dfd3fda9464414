-- Short values are in the domains of properties that are of a kind of keys, and the numbered values are short.
use Rattle.std.proofs.Common.{◌≡◌, ◌≢◌, ◌⊎◌, inl, inr, ◌∙◌, sym, ℕ, ◌+◌, ◌*◌, ◌<◌, ◌≤◌, ℤ, pos, negsuc, ◌≤ℤ◌, [], ◌∷◌, ◌&&◌, true, IsTrue, Option, Some, None, encode_utf8_all, refl, ap, subst, arith}
use Rattle.std.specs.Str.{all_scalars}
use Rattle.std.proofs.lemmas.Int.{ints}
use Rattle.std.proofs.lemmas.Str.{encodes_same}
use lib.Utf8.{low_scalar}
use Rattle.emc_base.specs.Domain.{IsBetween, IsWithin}
use Rattle.emc_base.specs.declared.value.Value.TheVariants as value
use Rattle.emc_base.specs.declared.value.Kind.TheVariants as kind
use Rattle.round_trip.specs.Words.{Value, Null, Kind, InDomain}
use Rattle.round_trip.specs.soundness.Kinds.{IsKeyKind, IsSoundBound, IsSoundKind}
use Rattle.schema_laws.specs.short_values.Short.{IsOfSort, IsShort}
use Rattle.schema_laws.specs.short_values.Numbers.{letter, number}
use Rattle.schema_laws.specs.short_values.Fresh.{fresh, most_indices}

-- null is in no domain, and no short value
no_null : (k : Kind) → InDomain Null k → ⊥
no_null kind.Boolean domain = domain
no_null kind.Byte domain = domain
no_null kind.Int16 domain = domain
no_null kind.Int32 domain = domain
no_null kind.Int64 domain = domain
no_null (kind.Text bound) domain = domain
no_null (kind.Binary bound) domain = domain
no_null (kind.Enum enumeration) domain = domain

pub domain_not_null : (v : Value) (k : Kind) → InDomain v k → v ≢ Null
domain_not_null v k domain null = let P : Value → Type 0 = λ w. InDomain w k in no_null k (subst P null domain)

pub short_not_null : (v : Value) → IsShort v → v ≢ Null
short_not_null v short null = subst IsShort null short

between : (low high : ℕ) (n : ℤ) → 32767 ≤ high → IsBetween (pos 0) (pos 32767) n → IsBetween (negsuc low) (pos high) n
between low high n wide short = let up : pos 0 ≤ℤ n = short.0 in let down : n ≤ℤ pos 32767 = short.1 in (omega (arith, ints, up, down, wide), omega (arith, ints, up, down, wide))

-- a bound leaves room for one character
pub one_within : (bound : Option ℕ) → IsSoundBound bound → IsWithin bound 1
one_within None sound = tt
one_within (Some most) sound = sound.0

number_fits : (k : Kind) (v : Value) → (number_only : (n : ℤ) → IsBetween (pos 0) (pos 32767) n → InDomain (value.Whole n) k) → IsShort v → IsOfSort kind.Int64 v → InDomain v k
number_fits k value.Null fits short sort = absurd sort
number_fits k (value.Whole n) fits short sort = fits n short
number_fits k (value.Flag flag) fits short sort = absurd sort
number_fits k (value.Text text) fits short sort = absurd sort
number_fits k (value.Bytes bytes) fits short sort = absurd sort

text_fits : (bound : Option ℕ) → IsSoundBound bound → (v : Value) → IsShort v → IsOfSort (kind.Text bound) v → InDomain v (kind.Text bound)
text_fits bound sound value.Null short sort = absurd sort
text_fits bound sound (value.Whole n) short sort = absurd sort
text_fits bound sound (value.Flag flag) short sort = absurd sort
text_fits bound sound (value.Text text) short sort = record { characters = short.0 ∷ []; scalar = short.1; spelled = short.2; within = one_within bound sound }
text_fits bound sound (value.Bytes bytes) short sort = absurd sort

-- a short value of its sort is in the domain of a kind of keys
pub fits_short : (k : Kind) → IsKeyKind k → IsSoundKind k → (v : Value) → IsShort v → IsOfSort k v → InDomain v k
fits_short kind.Boolean key sound v short sort = absurd key
fits_short kind.Byte key sound v short sort = absurd key
fits_short kind.Int16 key sound v short sort = number_fits kind.Int16 v (λ n. between 32767 32767 n (omega arith)) short sort
fits_short kind.Int32 key sound v short sort = number_fits kind.Int32 v (λ n. between 2147483647 2147483647 n (omega arith)) short sort
fits_short kind.Int64 key sound v short sort = number_fits kind.Int64 v (λ n. between 9223372036854775807 9223372036854775807 n (omega arith)) short sort
fits_short (kind.Text bound) key sound v short sort = text_fits bound sound v short sort
fits_short (kind.Binary bound) key sound v short sort = absurd key
fits_short (kind.Enum enumeration) key sound v short sort = absurd key

-- one character, and a number that isn't too large
pub one_scalar : (code : ℕ) → code < 55296 → IsTrue (all_scalars (code ∷ []))
one_scalar code low = ap (λ t. t && true) (low_scalar code low)

letter_short : (code : ℕ) → code < 55296 → IsShort (letter code)
letter_short code low = (code, one_scalar code low, refl)

number_short : (n : ℕ) → n ≤ 32767 → IsShort (number n)
number_short n low = (omega (arith, ints), omega (arith, ints, low))

-- no numbered value is above 20,486, and no code above 20,576
pub fresh_short : (k : Kind) (outer index : ℕ) → outer ≤ 4 → index < most_indices → IsShort (fresh k outer index)
fresh_short kind.Boolean outer index few below = number_short (5 * index + outer + 7) (omega (arith, few, below))
fresh_short kind.Byte outer index few below = number_short (5 * index + outer + 7) (omega (arith, few, below))
fresh_short kind.Int16 outer index few below = number_short (5 * index + outer + 7) (omega (arith, few, below))
fresh_short kind.Int32 outer index few below = number_short (5 * index + outer + 7) (omega (arith, few, below))
fresh_short kind.Int64 outer index few below = number_short (5 * index + outer + 7) (omega (arith, few, below))
fresh_short (kind.Text bound) outer index few below = letter_short (5 * index + outer + 97) (omega (arith, few, below))
fresh_short (kind.Binary bound) outer index few below = number_short (5 * index + outer + 7) (omega (arith, few, below))
fresh_short (kind.Enum enumeration) outer index few below = number_short (5 * index + outer + 7) (omega (arith, few, below))

pub fresh_sort : (k : Kind) → IsKeyKind k → (outer index : ℕ) → IsOfSort k (fresh k outer index)
fresh_sort kind.Boolean key outer index = absurd key
fresh_sort kind.Byte key outer index = absurd key
fresh_sort kind.Int16 key outer index = tt
fresh_sort kind.Int32 key outer index = tt
fresh_sort kind.Int64 key outer index = tt
fresh_sort (kind.Text bound) key outer index = tt
fresh_sort (kind.Binary bound) key outer index = absurd key
fresh_sort (kind.Enum enumeration) key outer index = absurd key

-- and so it is in the domain
pub fresh_fits : (k : Kind) → IsKeyKind k → IsSoundKind k → (outer index : ℕ) → outer ≤ 4 → index < most_indices → InDomain (fresh k outer index) k
fresh_fits k key sound outer index few below = fits_short k key sound (fresh k outer index) (fresh_short k outer index few below) (fresh_sort k key outer index)

pub number_same : (a b : ℕ) → number a ≡ number b → a ≡ b
number_same a b same = cc

pub letter_same : (a b : ℕ) → letter a ≡ letter b → a ≡ b
letter_same a b same =
    let texts : encode_utf8_all (a ∷ []) ≡ encode_utf8_all (b ∷ []) = cc in
    let lists : a ∷ [] ≡ b ∷ [] = encodes_same (a ∷ []) (b ∷ []) texts in
    cc

one_row : (c s t i j : ℕ) → s ≤ 4 → t ≤ 4 → 5 * i + s + c ≡ 5 * j + t + c → (s ≡ t) × (i ≡ j)
one_row c s t i j few_s few_t same = (omega (arith, few_s, few_t, same), omega (arith, few_s, few_t, same))

-- a numbered value is a number, or the text of one character
fresh_sorts : (k : Kind) (s i : ℕ) → (fresh k s i ≡ number (5 * i + s + 7)) ⊎ (fresh k s i ≡ letter (5 * i + s + 97))
fresh_sorts kind.Boolean s i = inl refl
fresh_sorts kind.Byte s i = inl refl
fresh_sorts kind.Int16 s i = inl refl
fresh_sorts kind.Int32 s i = inl refl
fresh_sorts kind.Int64 s i = inl refl
fresh_sorts (kind.Text bound) s i = inr refl
fresh_sorts (kind.Binary bound) s i = inl refl
fresh_sorts (kind.Enum enumeration) s i = inl refl

-- numbered values of different numbers are different, of whatever kinds
pub fresh_apart : (k l : Kind) (s t i j : ℕ) → s ≤ 4 → t ≤ 4 → fresh k s i ≡ fresh l t j → (s ≡ t) × (i ≡ j)
fresh_apart k l s t i j few_s few_t same = by (fresh_sorts k s i) (fresh_sorts l t j)
  where
    by : (fresh k s i ≡ number (5 * i + s + 7)) ⊎ (fresh k s i ≡ letter (5 * i + s + 97)) → (fresh l t j ≡ number (5 * j + t + 7)) ⊎ (fresh l t j ≡ letter (5 * j + t + 97))
        → (s ≡ t) × (i ≡ j)
    by (inl one) (inl two) = one_row 7 s t i j few_s few_t (number_same (5 * i + s + 7) (5 * j + t + 7) (sym one ∙ same ∙ two))
    by (inl one) (inr two) = absurd (let never : number (5 * i + s + 7) ≡ letter (5 * j + t + 97) = sym one ∙ same ∙ two in cc)
    by (inr one) (inl two) = absurd (let never : letter (5 * i + s + 97) ≡ number (5 * j + t + 7) = sym one ∙ same ∙ two in cc)
    by (inr one) (inr two) = one_row 97 s t i j few_s few_t (letter_same (5 * i + s + 97) (5 * j + t + 97) (sym one ∙ same ∙ two))

-- and so of one kind
pub fresh_same : (k : Kind) (s t i j : ℕ) → s ≤ 4 → t ≤ 4 → fresh k s i ≡ fresh k t j → (s ≡ t) × (i ≡ j)
fresh_same k = fresh_apart k k
