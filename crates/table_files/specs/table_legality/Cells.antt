-- What a cell breaks, and what is found there.
-- Source: SSDL version 3, Property.
use Rattle.std.specs.Prelude.{◌≡◌, ◌≢◌, ◌⊎◌, ℕ, [], ◌∷◌, Option, Some, None, false, IsTrue}
use Rattle.round_trip.specs.Words.{Value, Null, place_at, Table, Column, Row, At, InDomain, cell_of, row_key}
use Rattle.entity_state.specs.declared.breach_order.found.Found.{Found}
use Rattle.table_files.specs.declared.table_legality.rule.TableRule.{TableRule}
use Rattle.table_files.specs.declared.table_legality.rule.TableRule.TheVariants.{NullCell, CellDomain, RowKey, Reference}
use Rattle.table_files.specs.table_legality.Rules.{rule_number}

-- the value may stand in the column: B1 and B2
pub record FitsColumn (value : Value) (column : Column) : Type 0 where
  pub null : value ≡ Null → IsTrue column.nullable
  pub domain : (value ≡ Null) ⊎ InDomain value column.kind

-- the value breaks the rule in the column
abbrev pub BreaksInColumn : Value → Column → TableRule → Type 0
BreaksInColumn value column NullCell = (value ≡ Null) × (column.nullable ≡ false)
BreaksInColumn value column CellDomain = (value ≢ Null) × ¬ InDomain value column.kind
BreaksInColumn value column RowKey = ⊥
BreaksInColumn value column Reference = ⊥

-- the rule that the value breaks, or that it may stand there
abbrev pub ValueTold : Value → Column → Option TableRule → Type 0
ValueTold value column None = FitsColumn value column
ValueTold value column (Some rule) = BreaksInColumn value column rule

-- the same of a row's cell of a column, by the column's number
abbrev pub CellTold : Row → ℕ → Column → Option TableRule → Type 0
CellTold row j column told = ValueTold (cell_of row (record { index = j })) column told

-- each cell of a row may stand in its column
pub record FitsColumns (table : Table) (row : Row) : Type 0 where
  pub each : (j : ℕ) (column : Column) → At table.cols j column → FitsColumn (cell_of row (record { index = j })) column

-- a breach at the j-th column of the i-th row of the t-th table
pub record IsCellBreach (t : ℕ) (table : Table) (i : ℕ) (row : Row) (j : ℕ) (column : Column) (found : Found) : Type 0 where
  pub rule : TableRule
  pub broken : BreaksInColumn (cell_of row (record { index = j })) column rule
  pub found_is : found ≡ record { rule = rule_number rule; spot = t ∷ i ∷ j ∷ []; place = place_at table.name (row_key table row) column.name }
