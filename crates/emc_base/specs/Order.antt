-- The order of values and keys, by which everything is printed.
use Rattle.std.specs.Prelude.{ℕ}
use Rattle.std.specs.declared.cmp.Ordering.{Ordering}
use Rattle.std.specs.Ordering.{nat_cmp, int_cmp, bool_cmp}
use Rattle.std.specs.Cmp.Lexicographic.{slice_cmp}
use Rattle.emc_base.specs.declared.value.Value.{Value}
use Rattle.emc_base.specs.declared.value.Value.TheVariants.{Null, Whole, Flag, Text, Bytes}

-- the place of a value's sort: null, whole numbers, flags, texts, byte lists
abbrev pub rank_of : Value → ℕ
rank_of Null = 0
rank_of (Whole number) = 1
rank_of (Flag flag) = 2
rank_of (Text text) = 3
rank_of (Bytes bytes) = 4

-- values of one sort by size, false before true, or by bytes; others by their sorts
abbrev pub value_cmp : Value → Value → Ordering
value_cmp (Whole a) (Whole b) = int_cmp a b
value_cmp (Flag a) (Flag b) = bool_cmp a b
value_cmp (Text a) (Text b) = slice_cmp nat_cmp a b
value_cmp (Bytes a) (Bytes b) = slice_cmp nat_cmp a b
value_cmp a b = nat_cmp (rank_of a) (rank_of b)
