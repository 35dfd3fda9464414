-- The order of values is total, and tells different values apart; so does that of keys.
use Rattle.std.specs.Prelude.{◌≡◌, ℕ, ℤ, pos, List, [], Bool, true, false}
use Rattle.std.specs.declared.cmp.Ordering.{Ordering}
use Rattle.std.specs.declared.cmp.Ordering.TheVariants.{Less, Equal, Greater}
use mathlib.Core.Path.{refl, ap, subst}
use Rattle.std.specs.Ordering.{bool_cmp, int_cmp, nat_cmp, on, ordering_then, then_cmp}
use Rattle.std.specs.Cmp.{IsTotalOrder, bool_cmp_total, int_cmp_total, nat_cmp_total, on_total, then_total}
use Rattle.std.specs.Cmp.Lexicographic.{lists_total, nat_list_cmp_total, slice_cmp}
use Rattle.std.specs.FinMap.{IsAntisymmetric, int_cmp-IsAntisymmetric, nat_cmp-IsAntisymmetric, slice_cmp-IsAntisymmetric}
use Rattle.emc_base.specs.declared.value.Value.{Value}
use Rattle.emc_base.specs.declared.value.Value.TheVariants.{Null, Whole, Flag, Text, Bytes}
use Rattle.emc_base.specs.Order.{rank_of, value_cmp}

-- what a value holds, by its sort; something fixed where it is of another
whole_in : Value → ℤ
whole_in Null = pos 0
whole_in (Whole number) = number
whole_in (Flag flag) = pos 0
whole_in (Text text) = pos 0
whole_in (Bytes bytes) = pos 0

flag_in : Value → Bool
flag_in Null = false
flag_in (Whole number) = false
flag_in (Flag flag) = flag
flag_in (Text text) = false
flag_in (Bytes bytes) = false

text_in : Value → List ℕ
text_in Null = []
text_in (Whole number) = []
text_in (Flag flag) = []
text_in (Text text) = text
text_in (Bytes bytes) = []

bytes_in : Value → List ℕ
bytes_in Null = []
bytes_in (Whole number) = []
bytes_in (Flag flag) = []
bytes_in (Text text) = []
bytes_in (Bytes bytes) = bytes

-- by the sorts, and then by what they hold
by_parts : Value → Value → Ordering
by_parts =
    then_cmp (on rank_of nat_cmp)
    (then_cmp (on whole_in int_cmp)
    (then_cmp (on flag_in bool_cmp)
    (then_cmp (on text_in (slice_cmp nat_cmp)) (on bytes_in (slice_cmp nat_cmp)))))

-- the order by parts is total
by_parts_total : IsTotalOrder by_parts
unfolding by_parts
by_parts_total =
    then_total (on_total rank_of nat_cmp_total)
    (then_total (on_total whole_in int_cmp_total)
    (then_total (on_total flag_in bool_cmp_total)
    (then_total (on_total text_in nat_list_cmp_total) (on_total bytes_in nat_list_cmp_total))))

-- what comes after decides nothing where it says Equal
then_equal : (order : Ordering) → ordering_then order Equal ≡ order
then_equal Less = refl
then_equal Equal = refl
then_equal Greater = refl

-- the order by parts is that of values
agree : (x y : Value) → by_parts x y ≡ value_cmp x y
unfolding by_parts whole_in flag_in text_in bytes_in
agree (Whole a) (Whole b) = then_equal (int_cmp a b)
agree (Flag a) (Flag b) = then_equal (bool_cmp a b)
agree (Text a) (Text b) = then_equal (slice_cmp nat_cmp a b)
agree (Bytes a) (Bytes b) = refl
agree Null Null = refl
agree Null (Whole b) = refl
agree Null (Flag b) = refl
agree Null (Text b) = refl
agree Null (Bytes b) = refl
agree (Whole a) Null = refl
agree (Whole a) (Flag b) = refl
agree (Whole a) (Text b) = refl
agree (Whole a) (Bytes b) = refl
agree (Flag a) Null = refl
agree (Flag a) (Whole b) = refl
agree (Flag a) (Text b) = refl
agree (Flag a) (Bytes b) = refl
agree (Text a) Null = refl
agree (Text a) (Whole b) = refl
agree (Text a) (Flag b) = refl
agree (Text a) (Bytes b) = refl
agree (Bytes a) Null = refl
agree (Bytes a) (Whole b) = refl
agree (Bytes a) (Flag b) = refl
agree (Bytes a) (Text b) = refl

-- the order of values is total
pub value_cmp_total : IsTotalOrder value_cmp
value_cmp_total = subst IsTotalOrder (λ i x y. agree x y i) by_parts_total

-- flags that their order doesn't tell apart are one
bool_apart : IsAntisymmetric bool_cmp
bool_apart false false same = refl
bool_apart true true same = refl
bool_apart false true same = cc
bool_apart true false same = cc

-- values that it doesn't tell apart are one
pub value_cmp_apart : IsAntisymmetric value_cmp
value_cmp_apart (Whole a) (Whole b) same = ap Whole (int_cmp-IsAntisymmetric a b same)
value_cmp_apart (Flag a) (Flag b) same = ap Flag (bool_apart a b same)
value_cmp_apart (Text a) (Text b) same = ap Text (slice_cmp-IsAntisymmetric nat_cmp-IsAntisymmetric a b same)
value_cmp_apart (Bytes a) (Bytes b) same = ap Bytes (slice_cmp-IsAntisymmetric nat_cmp-IsAntisymmetric a b same)
value_cmp_apart Null Null same = refl
value_cmp_apart Null (Whole b) same = cc
value_cmp_apart Null (Flag b) same = cc
value_cmp_apart Null (Text b) same = cc
value_cmp_apart Null (Bytes b) same = cc
value_cmp_apart (Whole a) Null same = cc
value_cmp_apart (Whole a) (Flag b) same = cc
value_cmp_apart (Whole a) (Text b) same = cc
value_cmp_apart (Whole a) (Bytes b) same = cc
value_cmp_apart (Flag a) Null same = cc
value_cmp_apart (Flag a) (Whole b) same = cc
value_cmp_apart (Flag a) (Text b) same = cc
value_cmp_apart (Flag a) (Bytes b) same = cc
value_cmp_apart (Text a) Null same = cc
value_cmp_apart (Text a) (Whole b) same = cc
value_cmp_apart (Text a) (Flag b) same = cc
value_cmp_apart (Text a) (Bytes b) same = cc
value_cmp_apart (Bytes a) Null same = cc
value_cmp_apart (Bytes a) (Whole b) same = cc
value_cmp_apart (Bytes a) (Flag b) same = cc
value_cmp_apart (Bytes a) (Text b) same = cc

-- the order of keys is total
pub key_cmp_total : IsTotalOrder (slice_cmp value_cmp)
key_cmp_total = lists_total value_cmp_total

-- keys that it doesn't tell apart are one
pub key_cmp_apart : IsAntisymmetric (slice_cmp value_cmp)
key_cmp_apart = slice_cmp-IsAntisymmetric value_cmp_apart
