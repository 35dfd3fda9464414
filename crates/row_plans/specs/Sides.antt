-- Rows of two tables side by side, grouped by their cells in some columns.
-- Source: this project's.
use Rattle.std.specs.Prelude.{◌≡◌, ◌↔◌, List, map, AllPairs, Contains}
use Rattle.std.specs.Borrow.{Bor}
use Rattle.std.specs.Cmp.Lexicographic.{slice_cmp}
use Rattle.std.specs.Global.{Vec}
use Rattle.std.specs.declared.cmp.Ordering.TheVariants.{Less}
use Rattle.emc_base.specs.Order.{value_cmp}
use Rattle.round_trip.specs.Words.{ColId, Value, Row, cells_of}
use Rattle.keyed_rows.specs.row_groups.Shown.{shown_cells}
use Rattle.keyed_rows.specs.declared.row_groups.groups.KeyGroup.{KeyGroup}
use Rattle.row_plans.specs.declared.altered.sides.Side.{Side}
use Rattle.row_plans.specs.declared.altered.sides.Side.TheVariants.{Before, Afterwards}
use Rattle.row_plans.specs.declared.altered.sides.SidedRow.{SidedRow}

-- a row of this side stands there
abbrev pub StandsThere : Side → List SidedRow → Row → Type 0
StandsThere side rows row = (one : SidedRow) × Contains rows one × (one.side ≡ side) × (one.row.now ≡ row)

-- the rows of a side
abbrev pub rows_of : List Row → List Row → Side → List Row
rows_of old new Before = old
rows_of old new Afterwards = new

-- a row with its cells in some columns
abbrev pub keyed_row : Side → List ColId → Row → List Value × Side × Row
keyed_row side cols row = (cells_of row cols, side, row)

-- what a lent row with its cells shows
abbrev pub shown_sided : Vec (Bor Value) × SidedRow → List Value × Side × Row
shown_sided keyed = (shown_cells keyed.0, keyed.1.side, keyed.1.row.now)

-- groups of the rows of both sides: their keys rise, each has just the rows of its key, and there is one for the key of each row
pub record AreRowGroups (cols : List ColId) (old new : List Row) (groups : List (KeyGroup SidedRow)) : Type 0 where
  pub rising : AllPairs (λ one later. slice_cmp value_cmp (shown_cells one.key) (shown_cells later.key) ≡ Less) groups
  pub rows : (group : KeyGroup SidedRow) (side : Side) (row : Row) → Contains groups group
      → StandsThere side group.items.items row ↔ (Contains (rows_of old new side) row × (cells_of row cols ≡ shown_cells group.key))
  pub all : (side : Side) (row : Row) → Contains (rows_of old new side) row → Contains (map (λ group. shown_cells group.key) groups) (cells_of row cols)
