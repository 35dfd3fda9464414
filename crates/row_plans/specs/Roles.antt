-- What the rows of alterations are to a foreign key: they come, refer, go, or referred.
-- Source: SSDL version 3, ReferentialConstraint; foreign keys that are checked at each statement.
use Rattle.std.specs.Prelude.{◌≡◌, ◌<◌, ℕ, List, [], ◌∷◌, length, All, Bool, true, false, Option, Some, None, if◌then◌else◌}
use Rattle.std.specs.List.{enumerate_from, flat_map, list_all}
use Rattle.std.specs.Prelude.{nat_eq}
use Rattle.round_trip.specs.Words.{ColId, ForeignKey, Row, TableId, Value, Null, Whole, Flag, Text, Bytes, cells_of}
use Rattle.row_orders.specs.declared.alteration.Alteration.{Alteration}
use Rattle.row_orders.specs.Alterations.{new_row, old_row}
use Rattle.row_plans.specs.declared.waiting.parts.Part.{Part}
use Rattle.row_plans.specs.declared.waiting.parts.Role.{Role}
use Rattle.row_plans.specs.declared.waiting.parts.Role.TheVariants.{Comes, Refers, Goes, Referred}

-- the value isn't null
abbrev pub is_value : Value → Bool
is_value Null = false
is_value (Whole _) = true
is_value (Flag _) = true
is_value (Text _) = true
is_value (Bytes _) = true

-- the row that may have a role, of those before and afterwards
abbrev pub row_by : Role → Option Row → Option Row → Option Row
row_by Comes None new = new
row_by Comes (Some _) new = None
row_by Refers old new = new
row_by Goes old None = old
row_by Goes old (Some _) = None
row_by Referred old new = old

-- a part with its cells, unless one of these is null
abbrev pub part_with : List Value → Part → List (List Value × Part)
part_with cells part = if list_all is_value cells then (cells, part) ∷ [] else []

abbrev pub all_roles : List Role
all_roles = Comes ∷ Refers ∷ Goes ∷ Referred ∷ []

module _ (key : ForeignKey) where
  -- the table of the rows of a role
  abbrev pub table_in : Role → TableId
  table_in Comes = key.to
  table_in Refers = key.from
  table_in Goes = key.to
  table_in Referred = key.from

  -- the columns by which they refer, or are referred to
  abbrev pub cols_in : Role → List ColId
  cols_in Comes = key.to_cols
  cols_in Refers = key.from_cols
  cols_in Goes = key.to_cols
  cols_in Referred = key.from_cols

  -- the row of an alteration that may have a role
  abbrev pub row_in : Role → Alteration → Option Row
  row_in role alteration = if nat_eq (table_in role).index alteration.table.index then row_by role (old_row alteration) (new_row alteration) else None

  -- such a row has a cell for each of the columns
  abbrev pub FitsIn : Alteration → Role → Type 0
  FitsIn alteration role = (row : Row) → row_in role alteration ≡ Some row → All (λ col. col.index < length row.cells) (cols_in role)

  abbrev pub Fits : Alteration → Type 0
  Fits alteration = (role : Role) → FitsIn alteration role

  abbrev pub part_by : Option Row → Part → List (List Value × Part)
  part_by None part = []
  part_by (Some row) part = part_with (cells_of row (cols_in part.role)) part

  -- the part of an alteration in a role, if it has it
  abbrev pub parts_in : Alteration → Part → List (List Value × Part)
  parts_in alteration part = part_by (row_in part.role alteration) part

  -- all parts of an alteration
  abbrev pub parts_at : ℕ → Alteration → List (List Value × Part)
  parts_at place alteration = flat_map (λ role. parts_in alteration (record { place = place; role = role })) all_roles

  -- those of all alterations
  abbrev pub all_parts : List Alteration → List (List Value × Part)
  all_parts alterations = flat_map (λ entry. parts_at entry.0 entry.1) (enumerate_from 0 alterations)
