-- Tables with one row more, and the first row of a key.
-- Source: SSDL version 3, EntitySet and Key.
use Rattle.std.specs.Prelude.{◌≡◌, ℕ, List, [], ◌∷◌, ◌++◌, Option, Some, None, take, All, slice_set}
use Rattle.edm_types.specs.Words.{TableId, Value, At, Tables, rows_in, cells_of}
use Rattle.edm_types.specs.declared.data.Row.{Row}
use Rattle.edm_types.specs.declared.store.StoreModel.{StoreModel}
use Rattle.round_trip.specs.Demand.{key_columns}

-- the row stands behind those of its table, and the other tables are as they were
abbrev pub with_row : Tables → TableId → Row → Tables
with_row tables table row = slice_set tables table.index (rows_in tables table ++ row ∷ [])

-- the first of the items of which P holds, or none, where P holds of none
abbrev pub IsFirstOf : {X : Type 0} → (X → Type 0) → List X → Option X → Type 0
IsFirstOf P items None = All (λ item. ¬ P item) items
IsFirstOf {X} P items (Some item) = (place : ℕ) × At items place item × P item × All (λ other. ¬ P other) (take place items)

-- the row's primary key in a table of the store is this
abbrev pub HasKey : StoreModel → TableId → List Value → Row → Type 0
HasKey store table key row = cells_of row (key_columns store table) ≡ key
