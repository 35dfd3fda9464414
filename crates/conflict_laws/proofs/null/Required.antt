-- Whether a column is there and isn't nullable.
use Rattle.std.proofs.Common.{◌≡◌, slice_get, Bool, true, false, not, Option, Some, None, IsTrue, refl, sym, ap, ◌∙◌}
use Rattle.std.specs.Option.{option_map_or}
use Rattle.emc_base.proofs.facts.Tests.{not_true}
use Rattle.round_trip.specs.Words.{ColId, Column, Schema, Table, TableId}
use Rattle.round_trip.specs.FailsAt.{HasColumn}
use Rattle.region_states.specs.conflicts.Facts.{is_required}

-- a column of the table that isn't nullable
pub record IsRequiredAt (schema : Schema) (t : TableId) (col : ColId) : Type 0 where
  pub table : Table
  pub column : Column
  pub here : HasColumn schema t table col column
  pub needed : column.nullable ≡ false

module _ (schema : Schema) (t : TableId) (col : ColId) where
  abbrev needed_in : Table → Bool
  needed_in table = option_map_or (λ (column : Column). not column.nullable) (slice_get table.cols col.index) false

  -- what is computed is so
  pub required_there : IsTrue (is_required schema.store t col) → IsRequiredAt schema t col
  required_there told = by (slice_get schema.store.tables t.index) refl told
    where
      by_column : (table : Table) → slice_get schema.store.tables t.index ≡ Some table → (found : Option Column) → slice_get table.cols col.index ≡ found
          → option_map_or (λ (column : Column). not column.nullable) found false ≡ true → IsRequiredAt schema t col
      by_column table is_table None none so = cc
      by_column table is_table (Some column) is_column so =
          record { table = table; column = column; here = record { is_table = is_table; is_column = is_column }; needed = not_true column.nullable so }

      by : (found : Option Table) → slice_get schema.store.tables t.index ≡ found → option_map_or needed_in found false ≡ true → IsRequiredAt schema t col
      by None none so = cc
      by (Some table) is_table so = by_column table is_table (slice_get table.cols col.index) refl so

  module _ (table : Table) (column : Column) (here : HasColumn schema t table col column) where
    required_is : is_required schema.store t col ≡ not column.nullable
    required_is =
        ap (λ found. option_map_or needed_in found false) here.is_table
        ∙ ap (λ found. option_map_or (λ (one : Column). not one.nullable) found false) here.is_column

    -- and the other way
    pub required_told : column.nullable ≡ false → IsTrue (is_required schema.store t col)
    required_told needed = required_is ∙ ap not needed

    pub told_needed : IsTrue (is_required schema.store t col) → column.nullable ≡ false
    told_needed told = not_true column.nullable (sym required_is ∙ told)
