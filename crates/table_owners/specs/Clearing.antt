-- Which columns are taken as free, while those that fragments name are passed.
-- Source: MSL version 3, ScalarProperty, EndProperty and Condition.
use Rattle.std.specs.Prelude.{◌≡◌, ◌⊎◌, ◌↔◌, ℕ, List, length, slice_get, Contains, Option, Some, MatchBool, Bool, true, option_and_then, option_map}
use Rattle.std.specs.Global.{Vec}
use Rattle.round_trip.specs.Words.{TableId, ColId, Table, Fragment, Pair, LinkFragment, Cond, Schema, At, IsWritten}
use Rattle.edm_types.specs.declared.mapping.CondOn.TheVariants as on
use Rattle.table_owners.specs.Made.{Made}

-- whether a column of a table is taken as free, where there is one
abbrev pub taken_at : List (Vec Bool) → TableId → ColId → Option Bool
taken_at free t col = option_and_then (λ columns. slice_get columns.items col.index) (slice_get free t.index)

-- how many columns a table has, where there is one
abbrev pub count_at : List (Vec Bool) → TableId → Option ℕ
count_at free t = option_map (λ columns. length columns.items) (slice_get free t.index)

-- just those columns are taken as free that were before, and of which P doesn't hold
pub record Clears (P : TableId → ColId → Type 0) (before after : List (Vec Bool)) : Type 0 where
  pub size : length after ≡ length before
  pub counts : (t : TableId) → count_at after t ≡ count_at before t
  pub taken : (t : TableId) (col : ColId) → (taken_at after t col ≡ Some true) ↔ ((taken_at before t col ≡ Some true) × ¬ P t col)

-- P holds of one of the items with this column
abbrev pub Each : {X : Type 0} → (X → TableId → ColId → Type 0) → List X → TableId → ColId → Type 0
Each {X} P items t col = (item : X) × Contains items item × P item t col

-- this column
abbrev pub IsColumn : TableId → ColId → TableId → ColId → Type 0
IsColumn table column t col = (table ≡ t) × (column ≡ col)

-- the column of a pair
abbrev pub IsPairOn : TableId → Pair → TableId → ColId → Type 0
IsPairOn table pair t col = (table ≡ t) × (pair.col ≡ col)

-- the column that a condition is on
abbrev pub IsCondOn : TableId → Cond → TableId → ColId → Type 0
IsCondOn table cond t col = (table ≡ t) × (cond.on ≡ on.Col col)

-- a column that a fragment names
abbrev pub IsNamedByEntities : Fragment → TableId → ColId → Type 0
IsNamedByEntities fragment t col = Each (IsPairOn fragment.table) fragment.pairs t col ⊎ Each (IsCondOn fragment.table) fragment.conds t col

-- the same for a fragment of links
abbrev pub IsNamedByLinks : LinkFragment → TableId → ColId → Type 0
IsNamedByLinks fragment t col = Each (IsPairOn fragment.table) fragment.first t col ⊎ Each (IsPairOn fragment.table) fragment.second t col
    ⊎ Each (IsCondOn fragment.table) fragment.conds t col

-- the columns of a table are taken as free just where something writes the table
pub record IsStartOf (schema : Schema) (t : TableId) (table : Table) (columns : List Bool) : Type 0 where
  pub size : length columns ≡ length table.cols
  pub each : (col : ColId) (taken : Bool) → At columns col.index taken → MatchBool taken (IsWritten schema.mapping t) (¬ IsWritten schema.mapping t)

-- so are those of the first so many tables
abbrev pub IsStart : Schema → ℕ → List (Vec Bool) → Type 0
IsStart schema n free = Made (λ t table columns. IsStartOf schema (record { index = t }) table columns.items) schema.store.tables n free
