-- Where tables break a rule, and which breach is told.
-- A spot orders the places of one rule: by table number, then by the order of the rows, then by column or foreign key number.
-- Source: the rules of `LegalTables`.
use Rattle.std.specs.Prelude.{◌≡◌, ◌≢◌, ◌⊎◌, ℕ, ◌<◌, List, [], ◌∷◌, false}
use Rattle.round_trip.specs.Types.{Value, Null, Place, place_at, StoreModel, Table, Column, ForeignKey, Row, Breach, At, InDomain, Tables, rows_in, cell_of, row_key}
use Rattle.round_trip.specs.legality.Breaches.{IsFirstBreach}
use Rattle.round_trip.specs.legality.LegalTables.{Refers, FindsRow}

-- the i-th row of the t-th table
pub record RowStandsIn (store : StoreModel) (tables : Tables) (t : ℕ) (table : Table) (i : ℕ) (row : Row) : Type 0 where
  pub is_table : At store.tables t table
  pub is_row : At (rows_in tables (record { index = t })) i row

-- a row's j-th column, at which B1 or B2 may be broken
pub record StandsAtColumn (store : StoreModel) (tables : Tables) (spot : List ℕ) (place : Place) (value : Value) (column : Column) : Type 0 where
  pub t : ℕ
  pub i : ℕ
  pub j : ℕ
  pub table : Table
  pub row : Row
  pub stands : RowStandsIn store tables t table i row
  pub is_column : At table.cols j column
  pub value_is : value ≡ cell_of row (record { index = j })
  pub spot_is : spot ≡ t ∷ i ∷ j ∷ []
  pub place_is : place ≡ place_at table.name (row_key table row) column.name

-- B1: null in a column that isn't nullable
abbrev pub BreaksNullCell : StoreModel → Tables → List ℕ → Place → Type 0
BreaksNullCell store tables spot place = (column : Column) × StandsAtColumn store tables spot place Null column × (column.nullable ≡ false)

-- B2: a value outside the column's domain
abbrev pub BreaksCellDomain : StoreModel → Tables → List ℕ → Place → Type 0
BreaksCellDomain store tables spot place = (value : Value) × (column : Column) × StandsAtColumn store tables spot place value column × (value ≢ Null) × ¬ InDomain value column.kind

-- B3: a row that has the key of one before it
pub record BreaksRowKey (store : StoreModel) (tables : Tables) (spot : List ℕ) (place : Place) : Type 0 where
  pub t : ℕ
  pub i : ℕ
  pub earlier : ℕ
  pub table : Table
  pub row : Row
  pub other : Row
  pub stands : RowStandsIn store tables t table i row
  pub other_stands : RowStandsIn store tables t table earlier other
  pub before : earlier < i
  pub same : row_key table other ≡ row_key table row
  pub spot_is : spot ≡ t ∷ i ∷ []
  pub place_is : place ≡ place_at table.name (row_key table row) []

-- B4: a row that refers by the k-th foreign key and finds no row
pub record BreaksForeignKey (store : StoreModel) (tables : Tables) (spot : List ℕ) (place : Place) : Type 0 where
  pub i : ℕ
  pub k : ℕ
  pub table : Table
  pub row : Row
  pub key : ForeignKey
  pub is_key : At store.keys k key
  pub stands : RowStandsIn store tables key.from.index table i row
  pub refers : Refers key row
  pub broken : ¬ FindsRow tables key row
  pub spot_is : spot ≡ key.from.index ∷ i ∷ k ∷ []
  pub place_is : place ≡ place_at table.name (row_key table row) key.name

-- the tables break the rule at the spot, which is told as the place
abbrev pub BreaksTableRule : StoreModel → Tables → ℕ → List ℕ → Place → Type 0
BreaksTableRule store tables rule spot place =
    ((rule ≡ 1) × BreaksNullCell store tables spot place)
    ⊎ ((rule ≡ 2) × BreaksCellDomain store tables spot place)
    ⊎ ((rule ≡ 3) × BreaksRowKey store tables spot place)
    ⊎ ((rule ≡ 4) × BreaksForeignKey store tables spot place)

-- what is told of tables that aren't legal
abbrev pub IsBreachOfTables : StoreModel → Tables → Breach → Type 0
IsBreachOfTables store tables breach = IsFirstBreach (BreaksTableRule store tables) breach
