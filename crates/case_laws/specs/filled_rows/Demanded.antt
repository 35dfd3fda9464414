-- That the rows of an entity, or of a link, are what a state demands of it.
-- Source: MSL version 3; the update views of Melnik, Adya and Bernstein, SIGMOD 2007.
use Rattle.std.specs.Prelude.{◌≡◌, List, Any, Contains}
use Rattle.round_trip.specs.Words.{SetId, TableId, Assoc, Value, At, DemandsRow, Entity, Hosted, Link, LinkFragment, Pair, State, Table, entities_in, row_key, written_key}
use Rattle.round_trip.specs.TablesAre.{HasDemandedCells}
use Rattle.table_files.specs.declared.tables.TableRow.{TableRow}
use Rattle.schema_laws.specs.state_demand.Owners.{IsJoinedTo, IsOwned, StandsAt}
use Rattle.schema_laws.specs.state_demand.Writings.{link_writing}
use Rattle.regions.specs.declared.region.Region.{Region}
use Rattle.regions.specs.Basis.{Basis}
use Rattle.regions.specs.Regions.{Holds, regions_of}
use Rattle.regions.specs.region_laws.IsBasis.{AreHostedLinks}
use Rattle.regions.specs.region_laws.Held.{IsAtRow}

-- an entity of the state, the links that it hosts, and the region that holds it with them
pub record IsHeldWith (basis : Basis) (state : State) (s : SetId) (entity : Entity) (links : List Hosted) (region : Region) : Type 0 where
  pub stands : Contains (entities_in state s) entity
  pub hosted : AreHostedLinks basis state s entity links
  pub listed : Contains (regions_of basis s) region
  pub holds : Holds basis region entity links

-- a row of the entity, in a table that its set owns, which the state demands, with the values that it demands there and null elsewhere
pub record IsDemandedRow (basis : Basis) (state : State) (s : SetId) (entity : Entity) (placed : TableRow) : Type 0 where
  pub table : Table
  pub pairing : List Pair
  pub is_table : At basis.schema.store.tables placed.table.index table
  pub owned : IsOwned basis.schema placed.table s pairing
  pub of_entity : StandsAt basis.schema state s pairing (row_key table placed.row) entity
  pub demanded : DemandsRow basis.schema state placed.table (row_key table placed.row)
  pub cells : HasDemandedCells basis.schema state placed.table table placed.row

-- each row of the entity that the state demands is among these
abbrev pub AreAllDemanded : Basis → State → SetId → Entity → List TableRow → Type 0
AreAllDemanded basis state s entity rows = (t : TableId) (table : Table) (key : List Value) → At basis.schema.store.tables t.index table → IsAtRow basis state s entity t key
    → DemandsRow basis.schema state t key → Any (λ placed. (placed.table ≡ t) × (row_key table placed.row ≡ key)) rows

-- the row of the link, at the key that its fragment writes, in the table that its association owns, with the values that the state demands there and null elsewhere
pub record IsDemandedLinkRow (basis : Basis) (state : State) (fragment : LinkFragment) (assoc : Assoc) (link : Link) (placed : TableRow) : Type 0 where
  pub table : Table
  pub is_table : At basis.schema.store.tables placed.table.index table
  pub joined : IsJoinedTo basis.schema placed.table fragment assoc
  pub at_key : row_key table placed.row ≡ written_key basis.schema.store (link_writing basis.schema.model fragment assoc link)
  pub demanded : DemandsRow basis.schema state placed.table (row_key table placed.row)
  pub cells : HasDemandedCells basis.schema state placed.table table placed.row
