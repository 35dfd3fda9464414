-- What rows may refer to, and the breaches at rows that refer to nothing.
-- Source: SSDL version 3, ReferentialConstraint.
use Rattle.std.specs.Prelude.{◌≡◌, ◌↔◌, ℕ, List, [], ◌∷◌, All, Any, IsTrue}
use Rattle.std.specs.BTreeSet.{BTreeSet, contains}
use Rattle.std.specs.Cmp.Lexicographic.{slice_cmp}
use Rattle.emc_base.specs.Order.{value_cmp}
use Rattle.groupings.specs.least_fault.Least.{Among}
use Rattle.round_trip.specs.Words.{Value, ColId, place_at, StoreModel, Table, ForeignKey, Row, At, Tables, rows_in, cells_of, row_key, Refers, FindsRow}
use Rattle.entity_state.specs.declared.breach_order.found.Found.{Found}

-- the set has just what some row holds in the columns
abbrev pub HoldsCells : List Row → List ColId → BTreeSet (List Value) → Type 0
HoldsCells rows cols held = (cells : List Value) → IsTrue (contains (slice_cmp value_cmp) held cells) ↔ Any (λ row. cells_of row cols ≡ cells) rows

-- the i-th row refers by the k-th foreign key to what Finds doesn't hold of, and its breach is told
pub record IsLost (Finds : Row → Type 0) (table : Table) (k : ℕ) (key : ForeignKey) (i : ℕ) (row : Row) (found : Found) : Type 0 where
  pub refers : Refers key row
  pub broken : ¬ Finds row
  pub found_is : found ≡ record { rule = 4; spot = key.from.index ∷ i ∷ k ∷ []; place = place_at table.name (row_key table row) key.name }

-- a row of the k-th foreign key's table refers by it and finds no row
pub record IsLostByKey (store : StoreModel) (tables : Tables) (k : ℕ) (key : ForeignKey) (found : Found) : Type 0 where
  pub table : Table
  pub is_table : At store.tables key.from.index table
  pub lost : Among (IsLost (FindsRow tables key) table k key) (rows_in tables key.from) found

-- where the row refers by the key, one of these rows has what it refers to
pub record KeepsAmong (targets : List Row) (key : ForeignKey) (row : Row) : Type 0 where
  pub kept : Refers key row → Any (λ target. cells_of target key.to_cols ≡ cells_of row key.from_cols) targets

-- all rows of the key's table keep it
pub record IsKept (tables : Tables) (key : ForeignKey) : Type 0 where
  pub rows : All (KeepsAmong (rows_in tables key.to) key) (rows_in tables key.from)
