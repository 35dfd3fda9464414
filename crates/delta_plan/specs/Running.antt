-- What the last of some changes do to the rows that stand before them.
-- Source: this project's.
use Rattle.std.specs.Prelude.{◌≡◌, ◌<◌, ◌∷◌, [], ℕ, List, length}
use Rattle.round_trip.specs.Words.{Row, StoreModel, TableId, Tables, Value, rows_in}
use Rattle.row_changes.specs.Changes.{after, key_in, table_of}
use Rattle.row_changes.specs.declared.change.RowChange.{RowChange}
use Rattle.entity_changes.specs.Spots.{Spot}
use Rattle.entity_changes.specs.declared.making.fates.Fates.{Fates}
use Rattle.entity_changes.specs.making.Fates.{becomes}

-- a change of one of so many tables
abbrev pub IsOfTable : ℕ → RowChange → Type 0
IsOfTable count change = (table_of change).index < count

-- where the row of a key is looked up: by the number of its table and the key
abbrev pub key_spot : TableId → List Value → Spot
key_spot t key = (t.index, key, [])

module _ (store : StoreModel) where
  abbrev pub row_spot : TableId → Row → Spot
  row_spot t row = key_spot t (key_in store t row)

  -- by their fates, what the rows of each table become by some changes
  abbrev pub Foretells : List RowChange → Fates Row → Type 0
  Foretells changes fates = (tables : Tables) → length tables ≡ length fates.behind.items → (t : TableId)
      → rows_in (after store tables changes) t ≡ becomes fates (row_spot t) t.index (rows_in tables t)

  -- what becomes of the rows of a numbered table
  abbrev pub rows_left : Fates Row → ℕ × List Row → List Row
  rows_left fates entry = becomes fates (row_spot (record { index = entry.0 })) entry.0 entry.1

  -- one change more is foretold, before the others
  pub record ForetellsOneMore (one : RowChange) (old new : Fates Row) : Type 0 where
    pub size : length new.behind.items ≡ length old.behind.items
    pub told : (changes : List RowChange) → Foretells changes old → Foretells (one ∷ changes) new
