-- A place for each property and each column that is no part of a key: the properties come first, then the columns of one table after another.
use Rattle.std.specs.Prelude.{◌≡◌, ◌+◌, ℕ, ◌<◌, List, [], ◌∷◌, ◌++◌, length, take, slice_get, sum_by, Contains, Option, Some, None, unwrap_or, IsSome}
use Rattle.round_trip.specs.Words.{EntityModel, StoreModel, Prop, Table, Mapping, Schema, At, key_props}
use Rattle.round_trip.specs.soundness.mappings.Joined.{Member, IsNoKey, prop, col}
use Rattle.member_groups.specs.declared.joined_groups.places.Places.{Places}

-- the property at a number is part of its type's key
abbrev pub IsPropOfKey : EntityModel → ℕ → Type 0
IsPropOfKey model i = (declared : Prop) × At model.props i declared × Contains (key_props model declared.owner) (record { index = i })

-- the column at a number is part of its table's primary key
abbrev pub IsColumnOfKey : Table → ℕ → Type 0
IsColumnOfKey table i = Contains table.key (record { index = i })

-- each of so many properties or columns has its place, counted from that of the first, or none where it is part of a key
pub record HavePlaces (IsOfKey : ℕ → Type 0) (count first : ℕ) (places : List (Option ℕ)) : Type 0 where
  pub size : length places ≡ count
  pub keys : (i : ℕ) → i < count → IsOfKey i → At places i None
  pub others : (i : ℕ) → i < count → ¬ IsOfKey i → At places i (Some (first + i))

-- the columns of one table more have places, behind all others
pub record IsAdded (table : Table) (before after : Places) : Type 0 where
  pub props : after.props ≡ before.props
  pub count : after.count ≡ before.count + length table.cols
  pub columns : List (Option ℕ)
  pub tables : after.tables ≡ before.tables ++ columns ∷ []
  pub places : HavePlaces (IsColumnOfKey table) (length table.cols) before.count columns

-- how many properties there are, and columns of the tables before this one
abbrev pub start_of : EntityModel → List Table → ℕ → ℕ
start_of model tables t = length model.props + sum_by (λ table. length table.cols) (take t tables)

-- the properties have places, and the columns of the first so many tables
pub record ArePlacesUpTo (model : EntityModel) (store : StoreModel) (n : ℕ) (places : Places) : Type 0 where
  pub props : HavePlaces (IsPropOfKey model) (length model.props) 0 places.props
  pub size : length places.tables ≡ n
  pub count : places.count ≡ start_of model store.tables n
  pub columns : (t : ℕ) (table : Table) → t < n → At store.tables t table
      → (columns : List (Option ℕ)) × At places.tables t columns × HavePlaces (IsColumnOfKey table) (length table.cols) (start_of model store.tables t) columns

-- the place of a property is its number, that of a column the number of all properties and of all columns before it
abbrev pub place_in : Schema → Member → ℕ
place_in schema (prop p) = p.index
place_in schema (col t c) = start_of schema.model schema.store.tables t.index + c.index

-- what a list of places holds; nothing outside of it
abbrev pub held_at : List (Option ℕ) → ℕ → Option ℕ
held_at places i = unwrap_or (slice_get places i) None

-- the place of a property or a column, as it is known
abbrev pub place_of : Places → Member → Option ℕ
place_of places (prop p) = held_at places.props p.index
place_of places (col t c) = held_at (unwrap_or (slice_get places.tables t.index) []) c.index

-- just what is no part of a key has a place, and that is its own
pub record ArePlaces (schema : Schema) (places : Places) : Type 0 where
  pub count : places.count ≡ start_of schema.model schema.store.tables (length schema.store.tables)
  pub some : (member : Member) → IsNoKey schema member → place_of places member ≡ Some (place_in schema member)
  pub only : (member : Member) → IsSome (place_of places member) → IsNoKey schema member

-- they are the places of each schema of this model and this store
abbrev pub ArePlacesOf : EntityModel → StoreModel → Places → Type 0
ArePlacesOf model store places = (mapping : Mapping) → ArePlaces (record { model = model; store = store; mapping = mapping }) places
