-- Rows of the tables of a legal state at which a fragment is looked at: those of an entity, and those of a link.
-- Source: this project's; MSL version 3, MappingFragment and AssociationSetMapping; the query views of Melnik, Adya and Bernstein, SIGMOD 2007.
use Rattle.std.specs.Prelude.{List, Contains}
use Rattle.round_trip.specs.Words.{SetId, TableId, Assoc, Entity, Fragment, Link, LinkFragment, Pair, Row, State, Table, Tables, links_in, row_key, rows_in}
use Rattle.schema_laws.specs.sound_demand.Fragments.{IsHostedFragment, IsJoinedFragment, IsOwnedFragment, IsStoredIn}
use Rattle.schema_laws.specs.sound_demand.ReadBack.{IsRowOfLink}
use Rattle.schema_laws.specs.state_demand.Owners.{StandsAt}
use Rattle.regions.specs.Basis.{Basis}

-- the row is in the table, and by the pairing that of the entity
pub record IsRowOfEntity (basis : Basis) (state : State) (tables : Tables) (s : SetId) (pairing : List Pair) (entity : Entity) (t : TableId) (table : Table) (row : Row)
    : Type 0 where
  pub among : Contains (rows_in tables t) row
  pub at : StandsAt basis.schema state s pairing (row_key table row) entity

-- the entity's row in the table of a fragment of its set
pub record RowAtFragment (basis : Basis) (state : State) (s : SetId) (entity : Entity) (fragment : Fragment) : Type 0 where
  pub tables : Tables
  pub stored : IsStoredIn basis.schema state tables
  pub pairing : List Pair
  pub table : Table
  pub to : IsOwnedFragment basis.schema s pairing fragment table
  pub row : Row
  pub of_entity : IsRowOfEntity basis state tables s pairing entity fragment.table table row

-- the entity's row in the table of a link fragment that writes to a table of its set
pub record RowAtHosted (basis : Basis) (state : State) (s : SetId) (entity : Entity) (fragment : LinkFragment) : Type 0 where
  pub tables : Tables
  pub stored : IsStoredIn basis.schema state tables
  pub pairing : List Pair
  pub assoc : Assoc
  pub table : Table
  pub to : IsHostedFragment basis.schema s pairing assoc fragment table
  pub row : Row
  pub of_entity : IsRowOfEntity basis state tables s pairing entity fragment.table table row

-- the row of a link in the table of its joined association
pub record RowAtJoined (basis : Basis) : Type 0 where
  pub state : State
  pub tables : Tables
  pub stored : IsStoredIn basis.schema state tables
  pub assoc : Assoc
  pub fragment : LinkFragment
  pub table : Table
  pub to : IsJoinedFragment basis.schema assoc fragment table
  pub link : Link
  pub stands : Contains (links_in state fragment.assoc) link
  pub row : Row
  pub among : Contains (rows_in tables fragment.table) row
  pub of_link : IsRowOfLink basis.schema fragment assoc table link row
