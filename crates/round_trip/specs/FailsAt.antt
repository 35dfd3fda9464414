-- The five ways in which a legal state fails, each with its place.
-- Source: the round-trip criterion of Melnik, Adya and Bernstein, SIGMOD 2007, part by part.
use Rattle.std.specs.Prelude.{◌≡◌, ◌≢◌, ◌⊎◌, ℕ, List, [], ◌++◌, map, Contains, All, false, slice_get, length, take, drop}
use Rattle.std.specs.Option.{option_map_or}
use Rattle.round_trip.specs.Types.{SetId, TypeId, TableId, ColId, AssocId, Value, Null, Place, place_at, EntityModel, EntitySet, Assoc, Table, Column, ForeignKey, Fragment, Pair, LinkFragment, Schema, Entity, Link, Row, At, key_props, value_beside, key_of, State, entities_in, links_in, IsIndependent, IsSameState, Tables, rows_in, row_key, AreSameTables}
use Rattle.round_trip.specs.declared.FailKind.{FailKind}
use Rattle.round_trip.specs.declared.FailKind.TheVariants as kind
use Rattle.round_trip.specs.legality.Legal.{IsLegal}
use Rattle.round_trip.specs.legality.LegalTables.{Refers, FindsRow}
use Rattle.round_trip.specs.Demand.{DemandsRow, DemandsCell, key_columns}
use Rattle.round_trip.specs.TablesAre.{TablesAre}
use Rattle.round_trip.specs.Satisfies.{IsWrittenTuple, IsShownTuple, IsWrittenLinkTuple, IsShownLinkTuple}

-- the t-th table with one of its columns
pub record HasColumn (schema : Schema) (t : TableId) (table : Table) (col : ColId) (column : Column) : Type 0 where
  pub is_table : At schema.store.tables t.index table
  pub is_column : At table.cols col.index column

-- Clash: a cell has two different demanded values. The place is the table, the row's key and the column.
pub record Clashes (schema : Schema) (state : State) (place : Place) : Type 0 where
  pub t : TableId
  pub table : Table
  pub col : ColId
  pub column : Column
  pub key : List Value
  pub one : Value
  pub two : Value
  pub has_column : HasColumn schema t table col column
  pub demands_one : DemandsCell schema state t key col one
  pub demands_two : DemandsCell schema state t key col two
  pub different : one ≢ two
  pub place_is : place ≡ place_at table.name key column.name

-- Null: a demanded row has, in a column that isn't nullable, no demanded value other than null. The place is the table, the
-- row's key and the column.
pub record LeavesNull (schema : Schema) (state : State) (place : Place) : Type 0 where
  pub t : TableId
  pub table : Table
  pub col : ColId
  pub column : Column
  pub key : List Value
  pub has_column : HasColumn schema t table col column
  pub not_nullable : column.nullable ≡ false
  pub demands_row : DemandsRow schema state t key
  pub no_value : (value : Value) → DemandsCell schema state t key col value → value ≡ Null
  pub place_is : place ≡ place_at table.name key column.name

-- the key in a tuple of an entity fragment, in the order of the set's key
abbrev pub key_in_tuple : EntityModel → TypeId → List Pair → List Value → List Value
key_in_tuple model ty pairs tuple = map (λ prop. value_beside prop (map (λ pair. pair.prop) pairs) tuple) (key_props model ty)

-- the type of the entities at the root of a set
abbrev pub element_of : EntityModel → SetId → TypeId
element_of model set = option_map_or (λ entry. entry.element) (slice_get model.sets set.index) (record { index = 0 })

-- both keys in a tuple of a link fragment, the first end's before the second's
abbrev pub keys_in_tuple : EntityModel → Assoc → LinkFragment → List Value → List Value
keys_in_tuple model assoc fragment tuple =
    key_in_tuple model assoc.first.ty fragment.first (take (length fragment.first) tuple)
    ++ key_in_tuple model assoc.second.ty fragment.second (drop (length fragment.first) tuple)

-- in one of the two sets and not in the other
abbrev pub IsInOneOnly : (List Value → Type 0) → (List Value → Type 0) → List Value → Type 0
IsInOneOnly Written Shown tuple = (Written tuple × ¬ Shown tuple) ⊎ (Shown tuple × ¬ Written tuple)

-- Disagrees: a tuple is written and not shown, or shown and not written. The place is the fragment's, with the tuple's key.
pub record Disagrees (schema : Schema) (state : State) (place : Place) : Type 0 where
  pub tables : Tables
  pub defined : TablesAre schema state tables
  pub tuple : List Value
  pub broken : ((fragment : Fragment) × Contains schema.mapping.fragments fragment
      × IsInOneOnly (IsWrittenTuple schema state fragment) (IsShownTuple tables fragment) tuple
      × (place ≡ place_at fragment.place (key_in_tuple schema.model (element_of schema.model fragment.set) fragment.pairs tuple) []))
      ⊎ ((fragment : LinkFragment) × (assoc : Assoc) × Contains schema.mapping.links fragment × At schema.model.assocs fragment.assoc.index assoc
      × IsInOneOnly (IsWrittenLinkTuple schema state fragment) (IsShownLinkTuple tables fragment) tuple
      × (place ≡ place_at fragment.place (keys_in_tuple schema.model assoc fragment tuple) []))

-- Dangling: a row refers by a foreign key and finds no row. The place is the table, the row's key and the key's name.
pub record Dangles (schema : Schema) (state : State) (place : Place) : Type 0 where
  pub tables : Tables
  pub defined : TablesAre schema state tables
  pub key : ForeignKey
  pub table : Table
  pub row : Row
  pub is_key : Contains schema.store.keys key
  pub is_table : At schema.store.tables key.from.index table
  pub is_row : Contains (rows_in tables key.from) row
  pub refers : Refers key row
  pub no_row : ¬ FindsRow tables key row
  pub place_is : place ≡ place_at table.name (row_key table row) key.name

-- the columns of one end of a link fragment are exactly its table's primary key
pub record IsHostedAt (schema : Schema) (table : TableId) (pairs : List Pair) : Type 0 where
  pub all : All (λ pair. Contains (key_columns schema.store table) pair.col) pairs
  pub whole : All (λ col. Contains (map (λ pair. pair.col) pairs) col) (key_columns schema.store table)

-- an entity of this key stands in the one state, and not the same one in the other
abbrev pub HasEntityOnly : EntityModel → SetId → List Value → State → State → Type 0
HasEntityOnly model set key c d = (entity : Entity) × Contains (entities_in c set) entity × (key_of model entity ≡ key)
    × ¬ Contains (entities_in d set) entity

-- a link that is hosted at the entity of this key in this set stands in the one state and not in the other
abbrev pub HasHostedLinkOnly : Schema → SetId → List Value → State → State → Type 0
HasHostedLinkOnly schema set key c d = (fragment : LinkFragment) × (assoc : Assoc) × (link : Link)
    × Contains schema.mapping.links fragment × At schema.model.assocs fragment.assoc.index assoc
    × Contains (links_in c fragment.assoc) link × (¬ Contains (links_in d fragment.assoc) link)
    × ((IsHostedAt schema fragment.table fragment.first × (assoc.first.set ≡ set) × (link.first ≡ key))
    ⊎ (IsHostedAt schema fragment.table fragment.second × (assoc.second.set ≡ set) × (link.second ≡ key)))

-- an independent association set that no link fragment maps
pub record IsUnmapped (schema : Schema) (a : AssocId) (assoc : Assoc) : Type 0 where
  pub is_assoc : At schema.model.assocs a.index assoc
  pub independent : IsIndependent assoc
  pub unmapped : All (λ fragment. fragment.assoc ≢ a) schema.mapping.links

-- the two states differ at the place: a set and a key at which the entity or the links hosted there differ, or an unmapped
-- association set and the empty key
abbrev pub DifferAt : Schema → State → State → Place → Type 0
DifferAt schema c d place =
    ((s : SetId) × (set : EntitySet) × (key : List Value) × At schema.model.sets s.index set
    × (HasEntityOnly schema.model s key c d ⊎ HasEntityOnly schema.model s key d c
    ⊎ HasHostedLinkOnly schema s key c d ⊎ HasHostedLinkOnly schema s key d c)
    × (place ≡ place_at set.name key []))
    ⊎ ((a : AssocId) × (assoc : Assoc) × IsUnmapped schema a assoc
    × (((link : Link) × Contains (links_in c a) link × ¬ Contains (links_in d a) link)
    ⊎ ((link : Link) × Contains (links_in d a) link × ¬ Contains (links_in c a) link))
    × (place ≡ place_at assoc.set_name [] []))

-- Same: another legal state has the same tables. The place is one at which the two states differ.
pub record IsSameAs (schema : Schema) (c d : State) (place : Place) : Type 0 where
  pub tables : Tables
  pub other_tables : Tables
  pub defined : TablesAre schema c tables
  pub other_defined : TablesAre schema d other_tables
  pub same_tables : AreSameTables tables other_tables
  pub other_legal : IsLegal schema.model d
  pub different : ¬ IsSameState c d
  pub differ : DifferAt schema c d place

-- the place of a kind in the order in which kinds are told
abbrev pub kind_number : FailKind → ℕ
kind_number kind.Clash = 1
kind_number kind.Null = 2
kind_number kind.Disagrees = 3
kind_number kind.Dangling = 4
kind_number kind.Same = 5

-- c fails by the kind at the place; d is looked at by the kind same alone
abbrev pub FailsBy : Schema → FailKind → Place → State → State → Type 0
FailsBy schema kind.Clash place c d = Clashes schema c place
FailsBy schema kind.Null place c d = LeavesNull schema c place
FailsBy schema kind.Disagrees place c d = Disagrees schema c place
FailsBy schema kind.Dangling place c d = Dangles schema c place
FailsBy schema kind.Same place c d = IsSameAs schema c d place

-- a legal state fails by the kind at the place
pub record FailsAt (schema : Schema) (kind : FailKind) (place : Place) (c d : State) : Type 0 where
  pub legal : IsLegal schema.model c
  pub fails : FailsBy schema kind place c d
