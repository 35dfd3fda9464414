-- What the row of a focus shows in the columns of a foreign key, and which entity that is forced has the key that is shown.
-- Source: SSDL version 3, Association and ReferentialConstraint; CSDL version 3, Key.
use Rattle.std.specs.Prelude.{◌≡◌, ◌==◌, ◌&&◌, List, [], ◌∷◌, flat_map, All, Bool, false, not, Option, None, Some, if◌then◌else◌}
use Rattle.std.specs.List.{list_all}
use Rattle.std.specs.Option.{option_map_or}
use Rattle.round_trip.specs.Words.{SetId, TableId, ColId, PropId, Null, ForeignKey, Pair}
use Rattle.regions.specs.Basis.{Basis}
use Rattle.regions.specs.Patterns.{pattern_of}
use Rattle.regions.specs.Settled.{Settled, free, known, settle}
use Rattle.regions.specs.Symbols.{same_symbol}
use Rattle.regions.specs.declared.pattern.Focus.{Focus}
use Rattle.regions.specs.declared.pattern.Symbol.{Symbol}
use Rattle.regions.specs.declared.pattern.Symbol.TheVariants as symbol
use Rattle.regions.specs.region_laws.pattern.Allowed.{told_of}
use Rattle.region_states.specs.conflicts.Facts.{has_row, listed_in}
use Rattle.region_states.specs.focus.Held.{HasRow}
use Rattle.conflict_laws.specs.rival.RivalValues.{is_null_cell}
use Rattle.forced_entities.specs.Forced.{part_in}
use Rattle.forced_entities.specs.declared.member.Forced.{Forced}

-- the column that stands beside a column
abbrev pub col_beside : ColId → List ColId → List ColId → Option ColId
col_beside col [] others = None
col_beside col (one ∷ cols) [] = None
col_beside col (one ∷ cols) (other ∷ others) = if one.index == col.index then Some other else col_beside col cols others

-- the property whose value the cell holds, where this may be null
abbrev pub nullable_by : Symbol → Bool → List PropId
nullable_by (symbol.Prop p) nullable = if nullable then p ∷ [] else []
nullable_by one nullable = []

abbrev pub nullable_in : Settled → List PropId
nullable_in (known value) = []
nullable_in (free one nullable) = nullable_by one nullable

-- a part of a key is that which a cell shows: the symbol whose value the cell holds. A constant is no part of a key.
abbrev pub IsShownPart : Settled → Option Symbol → Type 0
IsShownPart (known value) part = ⊥
IsShownPart (free one nullable) part = part ≡ Some one

-- the same, as a computed answer
abbrev pub is_symbol : Symbol → Option Symbol → Bool
is_symbol one None = false
is_symbol one (Some part) = same_symbol part one

abbrev pub is_shown_part : Settled → Option Symbol → Bool
is_shown_part (known value) part = false
is_shown_part (free one nullable) part = is_symbol one part

module _ (basis : Basis) where
  -- what the focus's row of a table holds in a column
  abbrev pub cell_at : Focus → TableId → ColId → Settled
  cell_at of t col = settle basis.schema.model (told_of of) (listed_in (pattern_of basis of) t col)

  -- the properties that may not be null where the row is to refer
  abbrev pub not_null_for : Focus → ForeignKey → List PropId
  not_null_for of key = flat_map (λ col. nullable_in (cell_at of key.from col)) key.from_cols

  -- the focus has a row of the table from which the key points, and no column of the key holds null for certain
  pub record MayRefer (of : Focus) (key : ForeignKey) : Type 0 where
    pub row : HasRow (pattern_of basis of) key.from
    pub some : All (λ col. ¬ (cell_at of key.from col ≡ known Null)) key.from_cols

  abbrev pub may_refer : Focus → ForeignKey → Bool
  may_refer of key = has_row (pattern_of basis of) key.from && list_all (λ col. not (is_null_cell (cell_at of key.from col))) key.from_cols

  -- what the row shows for a column of the table to which the key points
  abbrev pub shown_at : Focus → ForeignKey → ColId → Settled
  shown_at of key col = option_map_or (cell_at of key.from) (col_beside col key.to_cols key.from_cols) (known Null)

  -- the entity is of the set and has the key that is shown, part by part as the pairing says
  pub record Fits (of : Focus) (key : ForeignKey) (u : SetId) (pairing : List Pair) (one : Forced) : Type 0 where
    pub of_set : one.set ≡ u
    pub parts : All (λ pair. IsShownPart (shown_at of key pair.col) (part_in basis one pair.prop)) pairing

  abbrev pub fits : Focus → ForeignKey → SetId → List Pair → Forced → Bool
  fits of key u pairing one = (one.set.index == u.index) && list_all (λ pair. is_shown_part (shown_at of key pair.col) (part_in basis one pair.prop)) pairing
