-- Failures in small parts of a state: where it fails at a row, the part that the writers of this row need fails too.
-- Source: the round-trip criterion of Melnik, Adya and Bernstein, SIGMOD 2007, part by part; this project's choice of the states that it shows.
use Rattle.std.specs.Prelude.{◌≡◌, ◌⊎◌, List, [], ◌∷◌, ◌++◌, map, filter, flat_map, slice_get, Bool, true, false, Contains}
use Rattle.std.specs.Option.{option_map_or}
use Rattle.round_trip.specs.Words.{TableId, Value, Assoc, Entity, Fragment, LinkFragment, Link, Place, Row, Schema, State, Table, Tables, At, entities_in, links_in, place_at, row_key, rows_in, written_key}
use Rattle.round_trip.specs.FailsAt.{Clashes, Dangles, Disagrees, FailsAt, LeavesNull, element_of, key_in_tuple, keys_in_tuple}
use Rattle.round_trip.specs.declared.FailKind.TheVariants as kind
use Rattle.schema_laws.specs.state_demand.MadeTables.{is_to_row}
use Rattle.schema_laws.specs.state_demand.Writings.{entity_writing, link_writing}
use Rattle.population.specs.Kept.{key_at_end, key_in, part_of}
use Rattle.population.specs.Principals.{PlacedKey}

-- the keys at both ends of a link
abbrev pub keys_at_ends : Assoc → Link → List PlacedKey
keys_at_ends assoc link = key_at_end true assoc link ∷ (key_at_end false assoc link ∷ [])

module _ (schema : Schema) (state : State) (t : TableId) (key : List Value) where
  -- the keys of the entities that a fragment writes to the row where it selects them
  abbrev pub entity_writers : Fragment → List PlacedKey
  entity_writers fragment = map (key_in schema.model fragment.set)
      (filter (λ entity. is_to_row schema.store t key (entity_writing schema.model fragment entity)) (entities_in state fragment.set))

  -- the keys at both ends of the links of an association that a link fragment writes to the row
  abbrev pub links_to_row : LinkFragment → Assoc → List PlacedKey
  links_to_row fragment assoc = flat_map (keys_at_ends assoc)
      (filter (λ link. is_to_row schema.store t key (link_writing schema.model fragment assoc link)) (links_in state fragment.assoc))

  -- the same of a link fragment
  abbrev pub link_writers : LinkFragment → List PlacedKey
  link_writers fragment = option_map_or (links_to_row fragment) (slice_get schema.model.assocs fragment.assoc.index) []

  -- the keys of all that write to the row
  abbrev pub row_writers : List PlacedKey
  row_writers = flat_map entity_writers schema.mapping.fragments ++ flat_map link_writers schema.mapping.links

  -- the part of the state that the writers of the row need
  abbrev pub row_state : State
  row_state = part_of schema.model (state ∷ []) row_writers state

-- an entity that a fragment writes to the row has the key, or a link has it at an end
pub record IsEntityWriter (schema : Schema) (state : State) (t : TableId) (key : List Value) (placed : PlacedKey) : Type 0 where
  pub fragment : Fragment
  pub mapped : Contains schema.mapping.fragments fragment
  pub to_table : fragment.table ≡ t
  pub entity : Entity
  pub stands : Contains (entities_in state fragment.set) entity
  pub to_key : written_key schema.store (entity_writing schema.model fragment entity) ≡ key
  pub is : placed ≡ key_in schema.model fragment.set entity

pub record IsLinkWriter (schema : Schema) (state : State) (t : TableId) (key : List Value) (placed : PlacedKey) : Type 0 where
  pub fragment : LinkFragment
  pub mapped : Contains schema.mapping.links fragment
  pub to_table : fragment.table ≡ t
  pub assoc : Assoc
  pub is_assoc : At schema.model.assocs fragment.assoc.index assoc
  pub link : Link
  pub stands : Contains (links_in state fragment.assoc) link
  pub to_key : written_key schema.store (link_writing schema.model fragment assoc link) ≡ key
  pub first : Bool
  pub is : placed ≡ key_at_end first assoc link

-- the place is that of a fragment to the table, and the tables have a row of this key there
pub record IsDisagreeingRow (schema : Schema) (tables : Tables) (tuple : List Value) (place : Place) (t : TableId) (key : List Value) : Type 0 where
  pub of_fragment : ((fragment : Fragment) × Contains schema.mapping.fragments fragment × (fragment.table ≡ t)
      × (place ≡ place_at fragment.place (key_in_tuple schema.model (element_of schema.model fragment.set) fragment.pairs tuple) []))
      ⊎ ((fragment : LinkFragment) × (assoc : Assoc) × Contains schema.mapping.links fragment × At schema.model.assocs fragment.assoc.index assoc × (fragment.table ≡ t)
      × (place ≡ place_at fragment.place (keys_in_tuple schema.model assoc fragment tuple) []))
  pub table : Table
  pub is_table : At schema.store.tables t.index table
  pub row : Row
  pub stands : Contains (rows_in tables t) row
  pub keyed : row_key table row ≡ key

-- where the state fails at a place, the part that the writers of one row need is legal and fails at this place by the same kind
pub record FailsInRows (schema : Schema) (state : State) (place : Place) (other : State) : Type 0 where
  pub clash : (fails : Clashes schema state place) → FailsAt schema kind.Clash place (row_state schema state fails.t fails.key) other
  pub null : (fails : LeavesNull schema state place) → FailsAt schema kind.Null place (row_state schema state fails.t fails.key) other
  pub disagrees : (fails : Disagrees schema state place) → (t : TableId) × (key : List Value) × IsDisagreeingRow schema fails.tables fails.tuple place t key
      × FailsAt schema kind.Disagrees place (row_state schema state t key) other
  pub dangling : (fails : Dangles schema state place) → FailsAt schema kind.Dangling place (row_state schema state fails.key.from (row_key fails.table fails.row)) other
