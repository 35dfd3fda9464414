use Rattle.std.proofs.Common.{List, All, take}
use Rattle.cells.specs.Cells.{is_free_in}
use Rattle.round_trip.specs.Words.{Row}
use Rattle.table_files.specs.InOrder.{AreToldApartBy}
use Rattle.keyed_rows.specs.row_differences.Sides.{AreRowGroups}
use Rattle.keyed_rows.proofs.row_differences.OneTable.{IsClean}
use Rattle.keyed_rows.proofs.row_differences.differences.first_of_groups.Given as goal

-- the rows of the groups so far don't differ
abbrev pub invariant-loop-group : goal.invariant-loop-group
invariant-loop-group l = (held demanded : List Row) → AreToldApartBy l.table.key held → AreToldApartBy l.table.key demanded → AreRowGroups l.table.key held demanded l.groups
    → All (IsClean (is_free_in l.cells l.id) l.table held demanded) (take l.group-index l.groups)
