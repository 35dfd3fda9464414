-- A legal state with its tables, and a fragment with its table and with the set or the association that owns this.
-- Source: this project's profile of MSL version 3, AssociationSetMapping and MappingFragment.
use Rattle.std.specs.Prelude.{List, Contains}
use Rattle.round_trip.specs.Words.{SetId, Assoc, At, Fragment, IsLegal, LinkFragment, Pair, Schema, State, Table, Tables, TablesAre}
use Rattle.schema_laws.specs.state_demand.Owners.{IsJoinedTo, IsOwned}

-- a legal state is stored in the tables
pub record IsStoredIn (schema : Schema) (state : State) (tables : Tables) : Type 0 where
  pub legal : IsLegal schema.model state
  pub are : TablesAre schema state tables

-- a fragment of the mapping to this table, which the set owns with this pairing
pub record IsOwnedFragment (schema : Schema) (owner : SetId) (pairing : List Pair) (fragment : Fragment) (table : Table) : Type 0 where
  pub mapped : Contains schema.mapping.fragments fragment
  pub is_table : At schema.store.tables fragment.table.index table
  pub owned : IsOwned schema fragment.table owner pairing

-- a link fragment of the mapping, for this association, to this table
pub record IsLinkFragmentTo (schema : Schema) (assoc : Assoc) (fragment : LinkFragment) (table : Table) : Type 0 where
  pub mapped : Contains schema.mapping.links fragment
  pub is_table : At schema.store.tables fragment.table.index table
  pub is_assoc : At schema.model.assocs fragment.assoc.index assoc

-- and the set owns the table with this pairing
pub record IsHostedFragment (schema : Schema) (owner : SetId) (pairing : List Pair) (assoc : Assoc) (fragment : LinkFragment) (table : Table) : Type 0 where
  pub to : IsLinkFragmentTo schema assoc fragment table
  pub owned : IsOwned schema fragment.table owner pairing

-- and the association alone owns the table
pub record IsJoinedFragment (schema : Schema) (assoc : Assoc) (fragment : LinkFragment) (table : Table) : Type 0 where
  pub to : IsLinkFragmentTo schema assoc fragment table
  pub joined : IsJoinedTo schema fragment.table fragment assoc
