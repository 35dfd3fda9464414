-- That rows are as long as the columns of their table.
-- Source: this project's.
use Rattle.std.specs.Prelude.{◌≡◌, List, All, Some, length}
use Rattle.round_trip.specs.Words.{Row, StoreModel, TableId}
use Rattle.round_trip.specs.soundness.Lookups.{columns_of}
use Rattle.row_orders.specs.declared.alteration.Alteration.{Alteration}
use Rattle.row_orders.specs.Alterations.{new_row, old_row}

-- the row has a cell for each column of the table
abbrev pub IsAsLong : StoreModel → TableId → Row → Type 0
IsAsLong store t row = length row.cells ≡ length (columns_of store t)

-- so it is for the rows of an alteration
pub record HasLongRows (store : StoreModel) (alteration : Alteration) : Type 0 where
  pub old : (row : Row) → old_row alteration ≡ Some row → IsAsLong store alteration.table row
  pub new : (row : Row) → new_row alteration ≡ Some row → IsAsLong store alteration.table row

-- and for those of all
abbrev pub AreAsLong : StoreModel → List Alteration → Type 0
AreAsLong store alterations = All (HasLongRows store) alterations
