-- The columns that the ends of an association's mapping write, each with the first end that writes it. Only for the functions that look for
-- a column which an earlier end writes too.
-- Source: MSL version 3, EndProperty and ScalarProperty.
use Rattle.std.specs.Prelude.{ℕ, List, Bool, Option, Some, None, cond, position}
use Rattle.std.specs.BTreeMap.{get_by_text}
use Rattle.std.specs.List.{list_any}
use Rattle.std.specs.Option.{option_or}
use Rattle.std.specs.Str.{bytes_eq}
use Rattle.msl_rules.specs.declared.msl_lists.raw.RawPair.{RawPair}
use Rattle.msl_rules.specs.declared.msl_lists.raw.RawEndMapping.{RawEndMapping}
use Rattle.msl_checks.specs.declared.msl_link_rules.columns.WrittenColumns.{WrittenColumns}

-- one of the pairs writes the column
abbrev pub writes : List ℕ → List RawPair → Bool
writes col pairs = list_any (λ pair. bytes_eq col pair.col) pairs

-- the place of the first end that writes the column
abbrev pub first_writing : List RawEndMapping → List ℕ → Option ℕ
first_writing ends col = position (λ end. writes col end.pairs) ends

-- the place that is known of a column
abbrev pub end_in : WrittenColumns → List ℕ → Option ℕ
end_in columns col = get_by_text columns.by_name col

-- what is known of a column, or else this place, where the column is written
abbrev pub noted_where : Bool → ℕ → Option ℕ → Option ℕ
noted_where is place known = option_or known (cond is (Some place) None)
