-- In which orders changes keep all keys at each step.
-- Source: SSDL version 3, Key and ReferentialConstraint; foreign keys that are checked at each statement, as databases do.
use Rattle.std.specs.Prelude.{◌≡◌, ◌≢◌, ◌⊎◌, ◌≤◌, ℕ, suc, List, ◌++◌, All, AllPairs, Contains, length}
use Rattle.emc_base.specs.Lists.{AreApart}
use Rattle.round_trip.specs.Words.{At, ForeignKey, KeepsForeignKey, Refers, Row, StoreModel, TableId, Tables, cells_of, rows_in}
use Rattle.row_changes.specs.declared.change.RowChange.{RowChange}
use Rattle.row_changes.specs.declared.change.RowChange.TheVariants.{Insert, Delete}
use Rattle.row_changes.specs.Changes.{HasRow, after, key_in, key_of_change, table_of}
use Rattle.row_changes.specs.Differences.{AreDifference}

module _ (store : StoreModel) where
  -- no two rows of a table have one primary key, and each row that refers by a foreign key finds a row
  pub record KeepsKeys (tables : Tables) : Type 0 where
    pub primary : (t : TableId) → AllPairs (λ row other. key_in store t row ≢ key_in store t other) (rows_in tables t)
    pub foreign : All (KeepsForeignKey tables) store.keys

  -- so it is after each of the changes
  abbrev pub StepLegal : List RowChange → Tables → Type 0
  StepLegal changes tables = (before later : List RowChange) → changes ≡ before ++ later → KeepsKeys (after store tables before)

-- a row refers by a foreign key to a row
abbrev pub RefersTo : ForeignKey → Row → Row → Type 0
RefersTo key row target = Refers key row × (cells_of target key.to_cols ≡ cells_of row key.from_cols)

module _ (store : StoreModel) (old new : Tables) where
  -- one inserts a row to which the other's row refers afterwards, and didn't before
  pub record InsertsFor (key : ForeignKey) (one other : RowChange) : Type 0 where
    pub target : Row
    pub inserts : one ≡ Insert key.to target
    pub from : table_of other ≡ key.from
    pub row : Row
    pub stands : HasRow store new key.from (key_of_change store other) row
    pub refers : RefersTo key row target
    pub did_not : (before : Row) → HasRow store old key.from (key_of_change store other) before → ¬ RefersTo key before target

  -- the other deletes a row to which the one's row referred before, and doesn't afterwards
  pub record LeavesFor (key : ForeignKey) (one other : RowChange) : Type 0 where
    pub target : Row
    pub held : Contains (rows_in old key.to) target
    pub deletes : other ≡ Delete key.to (key_in store key.to target)
    pub from : table_of one ≡ key.from
    pub row : Row
    pub stood : HasRow store old key.from (key_of_change store one) row
    pub refers : RefersTo key row target
    pub does_not : (now : Row) → HasRow store new key.from (key_of_change store one) now → ¬ RefersTo key now target

  -- the one has to come before the other
  pub record MustPrecede (one other : RowChange) : Type 0 where
    pub apart : one ≢ other
    pub key : ForeignKey
    pub is_key : Contains store.keys key
    pub by_key : InsertsFor key one other ⊎ LeavesFor key one other

  -- no change stands behind one that it has to come before
  abbrev pub Respects : List RowChange → Type 0
  Respects changes = AllPairs (λ one later. ¬ MustPrecede later one) changes

  -- no list of all changes keeps all keys after each of them
  abbrev pub HasNoOrder : Type 0
  HasNoOrder = (changes : List RowChange) → AreDifference store old new changes → ¬ StepLegal store changes old

  -- each has to come before the next, and the last before the first
  pub record IsCycle (changes : List RowChange) : Type 0 where
    pub two : 2 ≤ length changes
    pub once : AreApart changes
    pub next : (i : ℕ) (one other : RowChange) → At changes i one → At changes (suc i) other → MustPrecede one other
    pub closes : (first last : RowChange) (i : ℕ) → At changes 0 first → At changes i last → length changes ≡ suc i → MustPrecede last first
