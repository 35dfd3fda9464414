-- The rows of one key, and what they alter.
-- Source: this project's.
use Rattle.std.specs.Prelude.{◌≡◌, List, [], ◌∷◌, ◌++◌, Bool, true, false, not, Option, Some, None, if◌then◌else◌}
use Rattle.std.specs.Borrow.{Bor}
use Rattle.std.specs.List.{flat_map}
use Rattle.std.specs.Option.{option_copied}
use Rattle.schema_laws.specs.state_demand.Selecting.{same_key}
use Rattle.round_trip.specs.Words.{ColId, Row, TableId}
use Rattle.keyed_rows.specs.declared.row_groups.groups.KeyGroup.{KeyGroup}
use Rattle.row_orders.specs.declared.alteration.Alteration.{Alteration}
use Rattle.row_plans.specs.declared.altered.sides.Side.{Side}
use Rattle.row_plans.specs.declared.altered.sides.Side.TheVariants.{Before, Afterwards}
use Rattle.row_plans.specs.declared.altered.sides.SidedRow.{SidedRow}
use Rattle.row_plans.specs.Sides.{AreRowGroups}

-- whether two sides are one
abbrev pub is_side : Side → Side → Bool
is_side Before Before = true
is_side Before Afterwards = false
is_side Afterwards Before = false
is_side Afterwards Afterwards = true

-- the first row of a side
abbrev pub first_of : Side → List SidedRow → Option (Bor Row)
first_of side [] = None
first_of side (one ∷ rows) = if is_side one.side side then Some one.row else first_of side rows

-- whether only one of two rows is there, or both are, and a cell differs
abbrev pub differ : Option Row → Option Row → Bool
differ None None = false
differ None (Some new) = true
differ (Some old) None = true
differ (Some old) (Some new) = not (same_key old.cells new.cells)

-- the alteration from the one row to the other, where they differ
abbrev pub altered_by : TableId → Option (Bor Row) → Option (Bor Row) → List Alteration
altered_by t old new = if differ (option_copied old) (option_copied new) then record { table = t; old = old; new = new } ∷ [] else []

-- that from the row before to the row afterwards
abbrev pub altered_at : TableId → List SidedRow → List Alteration
altered_at t rows = altered_by t (first_of Before rows) (first_of Afterwards rows)

abbrev pub altered_in : TableId → KeyGroup SidedRow → List Alteration
altered_in t group = altered_at t group.items.items

-- behind the alterations that were there stand those of a table
pub record AddsTable (t : TableId) (cols : List ColId) (old new : List Row) (before afterwards : List Alteration) : Type 0 where
  pub groups : List (KeyGroup SidedRow)
  pub are : AreRowGroups cols old new groups
  pub adds : afterwards ≡ before ++ flat_map (altered_in t) groups
