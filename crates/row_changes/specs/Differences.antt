-- The changes that lead from tables to others, each row's once.
-- Source: this project's; SSDL version 3, EntityType and Key.
use Rattle.std.specs.Prelude.{◌≢◌, List, All, Contains}
use Rattle.emc_base.specs.Lists.{AreApart}
use Rattle.round_trip.specs.Words.{AreLegalTables, Row, StoreModel, Tables, rows_in}
use Rattle.round_trip.specs.soundness.Stores.{IsSoundStore}
use Rattle.row_changes.specs.declared.change.RowChange.{RowChange}
use Rattle.row_changes.specs.declared.change.RowChange.TheVariants.{Insert, Update, Delete}
use Rattle.row_changes.specs.Changes.{HasNoRow, HasRow, key_in}

-- tables of one sound store that are legal, before and afterwards
pub record AreBothLegal (store : StoreModel) (old new : Tables) : Type 0 where
  pub sound : IsSoundStore store
  pub old_legal : AreLegalTables store old
  pub new_legal : AreLegalTables store new

module _ (store : StoreModel) (old new : Tables) where
  -- an insert where only the new tables have the row, a delete where only the old ones have one with the key, an update to the new row where both have one and they differ
  abbrev pub IsChange : RowChange → Type 0
  IsChange (Insert t row) = Contains (rows_in new t) row × HasNoRow store old t (key_in store t row)
  IsChange (Update t row) = Contains (rows_in new t) row × ((before : Row) × HasRow store old t (key_in store t row) before × (before ≢ row))
  IsChange (Delete t key) = ((before : Row) × HasRow store old t key before) × HasNoRow store new t key

  -- these are all changes from the old tables to the new ones, each once
  pub record AreDifference (changes : List RowChange) : Type 0 where
    pub only : All IsChange changes
    pub all : (change : RowChange) → IsChange change → Contains changes change
    pub once : AreApart changes
