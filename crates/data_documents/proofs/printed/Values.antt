-- The tree of a value that a kind allows gives the value for the kind, and each part of it is told.
use Rattle.std.proofs.Common.{◌≡◌, ◌⊎◌, ⊎_elim, ℕ, zero, suc, ◌<◌, ◌^◌, ℤ, pos, negsuc, ◌≤ℤ◌, List, [], ◌∷◌, Bool, cond, All, Some, None, refl, ap, sym, subst, arith, lt-ltb}
use Rattle.std.specs.Result.{result_ok}
use Rattle.std.specs.Prelude.{option_map}
use Rattle.std.proofs.lemmas.Int.{ints}
use Rattle.std.proofs.lemmas.List.Elements.{All-contains, All-head, All-tail}
use Rattle.std.proofs.lemmas.Str.{IsUtf8-from_ascii}
use Rattle.hex.specs.Hex.{IsBytes, encode_lower}
use Rattle.hex.proofs.HexLemmas.{decode_of-encode_lower}
use Rattle.serde_json.specs.Data.{number}
use Rattle.serde_json.specs.Find.{of_integer}
use Rattle.json_form.specs.TreeParts.{whole_of}
use Rattle.json_form.specs.Trees.{value_tree}
use Rattle.emc_base.specs.Domain.{IsBetween}
use Rattle.emc_base.specs.declared.value.Under.{Under}
use Rattle.emc_base.specs.declared.value.Under.TheVariants as under
use Rattle.emc_base.specs.declared.value.Value.TheVariants as value
use Rattle.emc_base.specs.declared.value.Kind.TheVariants as kind
use Rattle.round_trip.specs.Words.{Value, Null, Kind, InDomain}
use Rattle.round_trip.specs.soundness.Kinds.{IsSoundKind, under_kind}
use Rattle.data_documents.specs.shape_faults.Values.{value_in}
use Rattle.data_documents.proofs.printed.spelled.Digits.{digits_text}
use Rattle.data_documents.proofs.printed.spelled.Whole.{IsWhole, IsTold, told_negative, told_unsigned}

-- the number has 64 bits
abbrev IsLong : ℤ → Type 0
IsLong z = IsBetween (negsuc 9223372036854775807) (pos 9223372036854775807) z

long_under : (kind_under : Under) (z : ℤ) → InDomain (value.Whole z) (under_kind kind_under) → IsLong z
long_under under.Byte z is = let up : pos 0 ≤ℤ z = is.0 in let down : z ≤ℤ pos 255 = is.1 in (omega (arith, ints, up, down), omega (arith, ints, up, down))
long_under under.Int16 z is = let up : negsuc 32767 ≤ℤ z = is.0 in let down : z ≤ℤ pos 32767 = is.1 in (omega (arith, ints, up, down), omega (arith, ints, up, down))
long_under under.Int32 z is = let up : negsuc 2147483647 ≤ℤ z = is.0 in let down : z ≤ℤ pos 2147483647 = is.1 in (omega (arith, ints, up, down), omega (arith, ints, up, down))
long_under under.Int64 z is = is

long_enum : (k : Kind) → IsSoundKind k → (z : ℤ) → InDomain (value.Whole z) k → IsLong z
long_enum kind.Byte sound z is = long_under under.Byte z is
long_enum kind.Int16 sound z is = long_under under.Int16 z is
long_enum kind.Int32 sound z is = long_under under.Int32 z is
long_enum kind.Int64 sound z is = is
long_enum (kind.Enum enumeration) sound z is =
    long_under enumeration.under z (All-contains (λ number. InDomain (value.Whole number) (under_kind enumeration.under)) enumeration.members z sound.within is)
long_enum kind.Boolean sound z is = absurd is
long_enum (kind.Text bound) sound z is = absurd is
long_enum (kind.Binary bound) sound z is = absurd is

as_whole : (z : ℤ) → IsLong z → whole_of (number (of_integer z)) ≡ Some z
as_whole (pos n) is =
    let down : pos n ≤ℤ pos 9223372036854775807 = is.1 in
    let small : n < 2 ^ 63 = omega (arith, ints, down) in
    ap (λ (b : Bool). cond b (Some (pos n)) None) (lt-ltb n (2 ^ 63) small)
as_whole (negsuc n) is = refl

told_whole : (z : ℤ) → IsLong z → IsTold (of_integer z)
told_whole (pos n) is = let down : pos n ≤ℤ pos 9223372036854775807 = is.1 in told_unsigned n (omega (arith, ints, down))
told_whole (negsuc n) is = let up : negsuc 9223372036854775807 ≤ℤ negsuc n = is.0 in told_negative n (omega (arith, ints, up))

-- the tree gives the value for the kind, and is told part by part
pub record IsGood (k : Kind) (v : Value) : Type 0 where
  pub back : value_in k (value_tree v) ≡ Some v
  pub whole : (n : ℕ) → IsWhole n (value_tree v)

good_null : (k : Kind) → IsGood k Null
good_null k = record { back = refl; whole = λ n. tt }

good_whole : (k : Kind) → IsSoundKind k → (z : ℤ) → InDomain (value.Whole z) k → IsGood k (value.Whole z)
good_whole k sound z is = let long = long_enum k sound z is in record { back = by k is (as_whole z long); whole = λ n. told_whole z long }
  where
    by : (k : Kind) → InDomain (value.Whole z) k → whole_of (number (of_integer z)) ≡ Some z → value_in k (value_tree (value.Whole z)) ≡ Some (value.Whole z)
    by kind.Byte is read = ap (option_map value.Whole) read
    by kind.Int16 is read = ap (option_map value.Whole) read
    by kind.Int32 is read = ap (option_map value.Whole) read
    by kind.Int64 is read = ap (option_map value.Whole) read
    by (kind.Enum enumeration) is read = ap (option_map value.Whole) read
    by kind.Boolean is read = absurd is
    by (kind.Text bound) is read = absurd is
    by (kind.Binary bound) is read = absurd is

good_flag : (k : Kind) (flag : Bool) → InDomain (value.Flag flag) k → IsGood k (value.Flag flag)
good_flag kind.Boolean flag is = record { back = refl; whole = λ n. tt }
good_flag kind.Byte flag is = absurd is
good_flag kind.Int16 flag is = absurd is
good_flag kind.Int32 flag is = absurd is
good_flag kind.Int64 flag is = absurd is
good_flag (kind.Enum enumeration) flag is = absurd is
good_flag (kind.Text bound) flag is = absurd is
good_flag (kind.Binary bound) flag is = absurd is

good_text : (k : Kind) (text : List ℕ) → InDomain (value.Text text) k → IsGood k (value.Text text)
good_text (kind.Text bound) text is = record { back = refl; whole = λ n. (is.characters, (is.scalar, is.spelled)) }
good_text kind.Byte text is = absurd is
good_text kind.Int16 text is = absurd is
good_text kind.Int32 text is = absurd is
good_text kind.Int64 text is = absurd is
good_text kind.Boolean text is = absurd is
good_text (kind.Enum enumeration) text is = absurd is
good_text (kind.Binary bound) text is = absurd is

are_bytes : (bytes : List ℕ) → All (λ byte. byte < 256) bytes → IsBytes bytes
are_bytes [] small i = omega arith
are_bytes (byte ∷ bytes) small zero = All-head (λ b. b < 256) byte bytes small
are_bytes (byte ∷ bytes) small (suc i) = are_bytes bytes (All-tail (λ b. b < 256) byte bytes small) i

good_bytes : (k : Kind) (bytes : List ℕ) → InDomain (value.Bytes bytes) k → IsGood k (value.Bytes bytes)
good_bytes (kind.Binary bound) bytes is = record {
  back = ap (λ r. option_map value.Bytes (result_ok r)) (decode_of-encode_lower bytes (are_bytes bytes is.small));
  whole = λ n. IsUtf8-from_ascii (encode_lower bytes) (digits_text bytes);
}
good_bytes kind.Byte bytes is = absurd is
good_bytes kind.Int16 bytes is = absurd is
good_bytes kind.Int32 bytes is = absurd is
good_bytes kind.Int64 bytes is = absurd is
good_bytes kind.Boolean bytes is = absurd is
good_bytes (kind.Enum enumeration) bytes is = absurd is
good_bytes (kind.Text bound) bytes is = absurd is

in_domain : (k : Kind) → IsSoundKind k → (v : Value) → InDomain v k → IsGood k v
in_domain k sound value.Null is = good_null k
in_domain k sound (value.Whole z) is = good_whole k sound z is
in_domain k sound (value.Flag flag) is = good_flag k flag is
in_domain k sound (value.Text text) is = good_text k text is
in_domain k sound (value.Bytes bytes) is = good_bytes k bytes is

-- null, and each value that the kind allows
pub good_value : (k : Kind) → IsSoundKind k → (v : Value) → (v ≡ Null) ⊎ InDomain v k → IsGood k v
good_value k sound v = ⊎_elim (λ (null : v ≡ Null). subst (IsGood k) (sym null) (good_null k)) (λ (inside : InDomain v k). in_domain k sound v inside)
