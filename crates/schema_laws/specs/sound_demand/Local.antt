-- Demand row by row: what is written to a row of a table is of the entity, or of the link, which stands at the row's key.
-- Source: this project's profile of MSL version 3, AssociationSetMapping and MappingFragment.
use Rattle.std.specs.Prelude.{◌≡◌, ◌↔◌, ◌⊎◌, List, Contains}
use Rattle.round_trip.specs.Words.{SetId, TableId, Value, Assoc, Entity, Link, LinkFragment, Pair, Schema, State, Writing, WritesRow, links_in, written_key}
use Rattle.schema_laws.specs.state_demand.Owners.{IsJoinedTo, IsOwned, IsUnwritten, IsWritingOf, StandsAt}
use Rattle.schema_laws.specs.state_demand.Writings.{link_writing}

-- the writings to a row are those of the one entity that stands at its key
pub record IsLocal (schema : Schema) (state : State) (t : TableId) (owner : SetId) (pairing : List Pair) : Type 0 where
  pub local : (key : List Value) (writing : Writing) → WritesRow schema state t key writing
      → (entity : Entity) × StandsAt schema state owner pairing key entity × IsWritingOf schema state owner pairing entity writing
  pub one : (key : List Value) (x y : Entity) → StandsAt schema state owner pairing key x → StandsAt schema state owner pairing key y → x ≡ y
  pub whole : (key : List Value) (entity : Entity) → StandsAt schema state owner pairing key entity → (writing : Writing)
      → WritesRow schema state t key writing ↔ ((writing.table ≡ t) × IsWritingOf schema state owner pairing entity writing)

-- the writings to a row are those of one link, and each link writes a row of its own
pub record IsLocalToLinks (schema : Schema) (state : State) (t : TableId) (fragment : LinkFragment) (assoc : Assoc) : Type 0 where
  pub local : (key : List Value) (writing : Writing) → WritesRow schema state t key writing
      → (link : Link) × Contains (links_in state fragment.assoc) link × (writing ≡ link_writing schema.model fragment assoc link)
  pub writes : (link : Link) → Contains (links_in state fragment.assoc) link
      → WritesRow schema state t (written_key schema.store (link_writing schema.model fragment assoc link)) (link_writing schema.model fragment assoc link)
  pub one : (one two : Link) → Contains (links_in state fragment.assoc) one → Contains (links_in state fragment.assoc) two
      → written_key schema.store (link_writing schema.model fragment assoc one) ≡ written_key schema.store (link_writing schema.model fragment assoc two) → one ≡ two

-- a set owns the table and its rows are its entities', or a joined association does and they are its links', or nothing writes it
abbrev pub HasLocalDemand : Schema → State → TableId → Type 0
HasLocalDemand schema state t =
    ((owner : SetId) × (pairing : List Pair) × IsOwned schema t owner pairing × IsLocal schema state t owner pairing)
    ⊎ ((fragment : LinkFragment) × (assoc : Assoc) × IsJoinedTo schema t fragment assoc × IsLocalToLinks schema state t fragment assoc)
    ⊎ IsUnwritten schema t
