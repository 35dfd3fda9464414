-- Values that the row of numbers of a state doesn't have, and the row that is chosen for a foreign key at a focus.
-- Source: this project's choice of the states that it shows.
use Rattle.std.specs.Prelude.{◌≢◌, ◌⊎◌, ◌==◌, ◌+◌, ◌%◌, ◌<◌, ℕ, pos, List, [], ◌∷◌, map, slice_get, chars, Bool, if◌then◌else◌}
use Rattle.std.specs.List.{list_any}
use Rattle.std.specs.Option.{option_map_or}
use Rattle.emc_base.specs.declared.value.Value.TheVariants as value
use Rattle.round_trip.specs.Words.{Value, Null, Kind, ForeignKey}
use Rattle.round_trip.specs.soundness.mappings.Joined.{prop}
use Rattle.schema_laws.specs.short_values.Fresh.{fresh, most_indices}
use Rattle.regions.specs.Basis.{Basis}
use Rattle.regions.specs.Patterns.{Valuation, value_under}
use Rattle.regions.specs.Settled.{Settled, free, known}
use Rattle.regions.specs.declared.pattern.Focus.{Focus}
use Rattle.regions.specs.declared.pattern.Symbol.TheVariants as symbol
use Rattle.region_states.specs.defaults.Candidates.{first_free}
use Rattle.dangling_keys.specs.Flow.{IsFlow}
use Rattle.dangling_keys.specs.Showing.{cell_at}

-- the value is none of the row of numbers
abbrev pub IsOuter : ℕ → Value → Type 0
IsOuter outer value = (k : Kind) (i : ℕ) → i < most_indices → value ≢ fresh k outer i

-- the row of a number, and of the letters of a text; 5, which is no row, of another value
abbrev pub row_of_number : ℕ → ℕ
row_of_number n = (n + 3) % 5

abbrev pub row_of_letters : List ℕ → ℕ
row_of_letters [] = 5
row_of_letters (code ∷ []) = row_of_number code
row_of_letters (code ∷ (next ∷ more)) = 5

abbrev pub row_of : Value → ℕ
row_of (value.Whole (pos n)) = row_of_number n
row_of (value.Text bytes) = row_of_letters (chars bytes)
row_of _ = 5

-- whether one of the values may be of the row
abbrev pub is_taken : List Value → ℕ → Bool
is_taken values row = list_any (λ value. row_of value == row) values

-- the first of the five rows of which none of these is, where they are at most four
abbrev pub row_beside : List Value → ℕ
row_beside values = if is_taken values 0 then (if is_taken values 1 then (if is_taken values 2 then (if is_taken values 3 then 4 else 3) else 2) else 1) else 0

module _ (basis : Basis) where
  -- the value that a cell holds where this is no part of a key: the one that is known, or the first of the property that is no constant
  abbrev pub outer_value : Settled → Value
  outer_value (known value) = value
  outer_value (free (symbol.Prop p) nullable) = option_map_or (λ declared. first_free declared.kind (basis.constants (prop p))) (slice_get basis.schema.model.props p.index) Null
  outer_value (free one nullable) = Null

  -- the values of the cells from which a foreign key points, and a row of numbers that has none of them
  abbrev pub outer_values : Focus → ForeignKey → List Value
  outer_values of key = map (λ col. outer_value (cell_at basis of key.from col)) key.from_cols

  abbrev pub outer_row : Focus → ForeignKey → ℕ
  outer_row of key = row_beside (outer_values of key)

  -- what a cell holds is a part of a key, or no value of the row of numbers
  abbrev pub IsPartOrOuter : ℕ → Focus → Valuation → Settled → Type 0
  IsPartOrOuter outer of values (known value) = IsOuter outer value
  IsPartOrOuter outer of values (free one nullable) = ((i : ℕ) × IsFlow basis of one i) ⊎ IsOuter outer (value_under values one)
