-- Which pairs are of a key. Only for the functions that list writers.
-- Source: MSL version 3, ScalarProperty.
use Rattle.std.specs.Prelude.{ℕ, List, ◌&&◌, Bool, false, Option, Some, None, slice_get, if◌then◌else◌}
use Rattle.std.specs.Option.{option_map_or}
use Rattle.std.specs.Str.{bytes_eq}
use Rattle.round_trip.specs.Words.{PropId, ColId, Table, Pair}
use Rattle.msl_rules.specs.OwnerRules.{is_among_cols, is_among_props}

-- what was found, where it is a pair of a property of this key with a column of this primary key
abbrev pub of_key : List PropId → List ColId → Option Pair → Option Pair
of_key key cols None = None
of_key key cols (Some pair) = if is_among_props key pair.prop && is_among_cols cols pair.col then Some pair else None

-- the column of the table has this name
abbrev pub is_column_named : Table → List ℕ → ColId → Bool
is_column_named table name col = option_map_or (λ column. bytes_eq name column.name) (slice_get table.cols col.index) false
