-- Where a fragment and the tables disagree: at a row, with the key of the entity that stands there or the keys of its link.
-- Source: MSL version 3; the equations between select-project queries of Melnik, Adya and Bernstein, SIGMOD 2007.
use Rattle.std.specs.Prelude.{◌≡◌, ◌↔◌, ◌⊎◌, List, [], ◌++◌, Contains, length, take, drop}
use Rattle.round_trip.specs.Words.{SetId, Value, EntityModel, Assoc, Entity, Fragment, IsShownLinkTuple, IsShownTuple, IsWrittenLinkTuple, IsWrittenTuple, Link, LinkFragment, Pair, Row, Schema, Selects, Shows, ShowsLink, State, Table, Tables, cells_of, entities_in, key_of, links_in, place_at, row_key, rows_in}
use Rattle.round_trip.specs.FailsAt.{Disagrees, IsInOneOnly, element_of, key_in_tuple, keys_in_tuple}
use Rattle.schema_laws.specs.state_demand.Owners.{IsHostAt, IsLinkOf, StandsAt}
use Rattle.schema_laws.specs.state_demand.WellWritten.{cols_of}
use Rattle.schema_laws.specs.sound_demand.Fragments.{IsHostedFragment, IsJoinedFragment, IsOwnedFragment}
use Rattle.schema_laws.specs.sound_demand.ReadBack.{HasLinkOf, IsRowOfLink}

-- one of the two is so and the other isn't
abbrev pub IsOneOnly : Type 0 → Type 0 → Type 0
IsOneOnly One Other = (One × ¬ Other) ⊎ (Other × ¬ One)

-- the keys of both ends in a row's cells
abbrev pub keys_in_row : Schema → Assoc → LinkFragment → Row → List Value
keys_in_row schema assoc fragment row = keys_in_tuple schema.model assoc fragment (cells_of row (cols_of (fragment.first ++ fragment.second)))

-- the key in a tuple of a link fragment at the end that is hosted at the set
abbrev pub HasHostKey : EntityModel → SetId → List Pair → Assoc → LinkFragment → List Value → List Value → Type 0
HasHostKey model owner pairing assoc fragment tuple key =
    (IsHostAt owner pairing assoc.first fragment.first × (key_in_tuple model assoc.first.ty fragment.first (take (length fragment.first) tuple) ≡ key))
    ⊎ (IsHostAt owner pairing assoc.second fragment.second × (key_in_tuple model assoc.second.ty fragment.second (drop (length fragment.first) tuple) ≡ key))

module _ (schema : Schema) (state : State) (tables : Tables) where
  -- a tuple of this key is written and not shown, or shown and not written
  abbrev pub HasTupleOnly : Fragment → List Value → Type 0
  HasTupleOnly fragment key = (tuple : List Value) × IsInOneOnly (IsWrittenTuple schema state fragment) (IsShownTuple tables fragment) tuple
      × (key_in_tuple schema.model (element_of schema.model fragment.set) fragment.pairs tuple ≡ key)

  -- and so it is with the keys of both ends of a link fragment
  abbrev pub HasLinkTupleOnly : Assoc → LinkFragment → List Value → Type 0
  HasLinkTupleOnly assoc fragment keys = (tuple : List Value) × IsInOneOnly (IsWrittenLinkTuple schema state fragment) (IsShownLinkTuple tables fragment) tuple
      × (keys_in_tuple schema.model assoc fragment tuple ≡ keys)

  -- the link's row isn't shown
  pub record HidesLink (assoc : Assoc) (fragment : LinkFragment) (table : Table) (row : Row) (link : Link) : Type 0 where
    pub has_row : Contains (rows_in tables fragment.table) row
    pub has_link : Contains (links_in state fragment.assoc) link
    pub of_link : IsRowOfLink schema fragment assoc table link row
    pub hidden : ¬ ShowsLink fragment row

  module _ (owner : SetId) (pairing : List Pair) where
    -- the fragment selects the entity and doesn't show its row, or shows this and doesn't select the entity
    pub record DisagreesAtEntity (fragment : Fragment) (table : Table) (row : Row) (entity : Entity) : Type 0 where
      pub has_row : Contains (rows_in tables fragment.table) row
      pub stands : StandsAt schema state owner pairing (row_key table row) entity
      pub one_only : IsOneOnly (Selects schema.model fragment entity) (Shows fragment row)

    -- a link is hosted at the entity and its row isn't shown, or this is shown and no link is hosted at the entity
    pub record DisagreesAtHost (assoc : Assoc) (fragment : LinkFragment) (table : Table) (row : Row) (entity : Entity) : Type 0 where
      pub has_row : Contains (rows_in tables fragment.table) row
      pub stands : StandsAt schema state owner pairing (row_key table row) entity
      pub one_only : IsOneOnly (HasLinkOf schema state owner pairing assoc fragment entity) (ShowsLink fragment row)

    -- a tuple of this host's key is written and not shown, or shown and not written
    abbrev pub HasHostedTupleOnly : Assoc → LinkFragment → List Value → Type 0
    HasHostedTupleOnly assoc fragment key = (tuple : List Value) × IsInOneOnly (IsWrittenLinkTuple schema state fragment) (IsShownLinkTuple tables fragment) tuple
        × HasHostKey schema.model owner pairing assoc fragment tuple key

  -- each fragment of a set has a tuple of a key in one only exactly where it disagrees at the row of an entity of this key
  abbrev pub TuplesAreOfEntities : Type 0
  TuplesAreOfEntities = (owner : SetId) (pairing : List Pair) (fragment : Fragment) (table : Table) → IsOwnedFragment schema owner pairing fragment table
      → (key : List Value) → HasTupleOnly fragment key
      ↔ ((row : Row) × (entity : Entity) × DisagreesAtEntity owner pairing fragment table row entity × (key_of schema.model entity ≡ key))

  -- and there it fails, with the entity's key
  abbrev pub FailsAtEntities : Type 0
  FailsAtEntities = (owner : SetId) (pairing : List Pair) (fragment : Fragment) (table : Table) → IsOwnedFragment schema owner pairing fragment table
      → (row : Row) (entity : Entity) → DisagreesAtEntity owner pairing fragment table row entity
      → Disagrees schema state (place_at fragment.place (key_of schema.model entity) [])

  -- a hosted link fragment: its tuples in one only are of the hosts at whose rows it disagrees, and there it fails, with the keys in the row
  pub record StandsAtHosts (owner : SetId) (pairing : List Pair) (assoc : Assoc) (fragment : LinkFragment) (table : Table) : Type 0 where
    pub tuples : (key : List Value) → HasHostedTupleOnly owner pairing assoc fragment key
        ↔ ((row : Row) × (entity : Entity) × DisagreesAtHost owner pairing assoc fragment table row entity × (key_of schema.model entity ≡ key))
    -- told by the keys of both ends, they are those in such a row
    pub keys : (keys : List Value) → HasLinkTupleOnly assoc fragment keys
        ↔ ((row : Row) × (entity : Entity) × DisagreesAtHost owner pairing assoc fragment table row entity × (keys_in_row schema assoc fragment row ≡ keys))
    pub fails : (row : Row) (entity : Entity) → DisagreesAtHost owner pairing assoc fragment table row entity
        → Disagrees schema state (place_at fragment.place (keys_in_row schema assoc fragment row) [])
    -- the host's key in a row is that of the entity which stands there
    pub hosts : (row : Row) (entity : Entity) → StandsAt schema state owner pairing (row_key table row) entity
        → HasHostKey schema.model owner pairing assoc fragment (cells_of row (cols_of (fragment.first ++ fragment.second))) (key_of schema.model entity)
    -- where a link is hosted at the entity, the keys in the row are the link's
    pub links : (row : Row) (entity : Entity) (link : Link) → Contains (rows_in tables fragment.table) row → StandsAt schema state owner pairing (row_key table row) entity
        → Contains (links_in state fragment.assoc) link → IsLinkOf schema owner pairing assoc fragment link entity
        → keys_in_row schema assoc fragment row ≡ link.first ++ link.second
    -- and no other link is
    pub one : (entity : Entity) (link other : Link) → Contains (entities_in state owner) entity → Contains (links_in state fragment.assoc) link
        → Contains (links_in state fragment.assoc) other → IsLinkOf schema owner pairing assoc fragment link entity → IsLinkOf schema owner pairing assoc fragment other entity
        → link ≡ other

  -- so it is with each
  abbrev pub TuplesAreOfHosts : Type 0
  TuplesAreOfHosts = (owner : SetId) (pairing : List Pair) (assoc : Assoc) (fragment : LinkFragment) (table : Table)
      → IsHostedFragment schema owner pairing assoc fragment table → StandsAtHosts owner pairing assoc fragment table

  -- a joined link fragment: its tuples in one only are of the links whose rows it doesn't show, and there it fails, with the link's keys
  pub record StandsAtLinks (assoc : Assoc) (fragment : LinkFragment) (table : Table) : Type 0 where
    pub tuples : (keys : List Value) → HasLinkTupleOnly assoc fragment keys
        ↔ ((row : Row) × (link : Link) × HidesLink assoc fragment table row link × (link.first ++ link.second ≡ keys))
    pub fails : (row : Row) (link : Link) → HidesLink assoc fragment table row link
        → Disagrees schema state (place_at fragment.place (link.first ++ link.second) [])

  -- so it is with each
  abbrev pub TuplesAreOfLinks : Type 0
  TuplesAreOfLinks = (assoc : Assoc) (fragment : LinkFragment) (table : Table) → IsJoinedFragment schema assoc fragment table → StandsAtLinks assoc fragment table
