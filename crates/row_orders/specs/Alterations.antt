-- The rows of keys before and afterwards, and the changes that they ask for.
-- Source: this project's.
use Rattle.std.specs.Prelude.{◌≡◌, ◌≢◌, ◌+◌, ℕ, suc, List, [], All, AllPairs, Contains, Option, Some, None, length}
use Rattle.std.specs.Option.{option_copied}
use Rattle.emc_base.specs.Lists.{At}
use Rattle.round_trip.specs.Words.{Row, StoreModel, TableId, Tables, Value}
use Rattle.row_changes.specs.declared.change.RowChange.{RowChange}
use Rattle.row_changes.specs.declared.change.RowChange.TheVariants.{Insert, Update, Delete}
use Rattle.row_changes.specs.Changes.{HasNoRow, HasRow, key_in, key_of_change}
use Rattle.row_orders.specs.declared.alteration.Alteration.{Alteration}

-- the row before, and afterwards
abbrev pub old_row : Alteration → Option Row
old_row alteration = option_copied alteration.old

abbrev pub new_row : Alteration → Option Row
new_row alteration = option_copied alteration.new

module _ (store : StoreModel) where
  -- the change that leads from the one row to the other; where there is neither, a delete of no key
  abbrev pub change_by : TableId → Option Row → Option Row → RowChange
  change_by t None (Some new) = Insert t new
  change_by t (Some old) (Some new) = Update t new
  change_by t (Some old) None = Delete t (key_in store t old)
  change_by t None None = Delete t []

  abbrev pub change_of : Alteration → RowChange
  change_of alteration = change_by alteration.table (old_row alteration) (new_row alteration)

  -- whose row is altered: the table and the key
  abbrev pub whose : Alteration → TableId × List Value
  whose alteration = (alteration.table, key_of_change store (change_of alteration))

  -- the row of a key, or that there is none
  abbrev pub IsRowThere : Tables → TableId → List Value → Option Row → Type 0
  IsRowThere tables t key None = HasNoRow store tables t key
  IsRowThere tables t key (Some row) = HasRow store tables t key row

  -- the rows of one key, which differ
  pub record IsAlteration (old new : Tables) (alteration : Alteration) : Type 0 where
    pub before : IsRowThere old alteration.table (whose alteration).1 (old_row alteration)
    pub afterwards : IsRowThere new alteration.table (whose alteration).1 (new_row alteration)
    pub differ : old_row alteration ≢ new_row alteration

  -- all such rows, each key's once
  pub record AreAlterations (old new : Tables) (alterations : List Alteration) : Type 0 where
    pub only : All (IsAlteration old new) alterations
    pub all : (t : TableId) (key : List Value) (one two : Option Row) → IsRowThere old t key one → IsRowThere new t key two → one ≢ two
        → (alteration : Alteration) × Contains alterations alteration × (whose alteration ≡ (t, key))
    pub once : AllPairs (λ one later. whose one ≢ whose later) alterations

  -- the changes of the alterations at these places
  pub record AreChangesAt (alterations : List Alteration) (places : List ℕ) (changes : List RowChange) : Type 0 where
    pub size : length changes ≡ length places
    pub each : (i place : ℕ) (alteration : Alteration) → At places i place → At alterations place alteration → At changes i (change_of alteration)

  -- the same from the last place to the first
  pub record AreChangesRound (alterations : List Alteration) (places : List ℕ) (changes : List RowChange) : Type 0 where
    pub size : length changes ≡ length places
    pub each : (i j place : ℕ) (alteration : Alteration) → i + suc j ≡ length places → At places i place → At alterations place alteration → At changes j (change_of alteration)
