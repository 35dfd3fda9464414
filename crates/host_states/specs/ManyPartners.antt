-- Where an association is hosted whose other end is `*`, an entity with two partners clashes in its row.
-- Source: MSL version 3, AssociationSetMapping; CSDL version 3, Multiplicity; the round-trip criterion of Melnik, Adya and Bernstein, SIGMOD 2007.
use Rattle.std.specs.Prelude.{List, Bool}
use Rattle.round_trip.specs.Words.{SetId, TableId, ColId, Assoc, Column, Entity, FailsAt, Pair, State, Table, place_at}
use Rattle.round_trip.specs.FailsAt.{HasColumn}
use Rattle.round_trip.specs.declared.FailKind.TheVariants as kind
use Rattle.schema_laws.specs.state_demand.Owners.{IsOwned, paired_key}
use Rattle.regions.specs.Basis.{Basis, Host}
use Rattle.population.specs.LinkStates.{at_end, entity_at, two_links_state}

-- the entity that has two partners by the association
abbrev pub shared_entity : Basis → Host → Assoc → Entity
shared_entity basis host assoc = entity_at basis.schema.model 0 (at_end basis.schema.model 0 host.first_hosts assoc)

-- the state in which it has them
abbrev pub shared_state : Basis → Host → Assoc → State
shared_state basis host assoc = two_links_state basis.schema.model 0 host.assoc host.first_hosts assoc

-- it fails by a clash in the entity's row, in a column of a table that its set owns
pub record ClashesInRow (basis : Basis) (s : SetId) (host : Host) (assoc : Assoc) : Type 0 where
  pub t : TableId
  pub col : ColId
  pub table : Table
  pub column : Column
  pub has_column : HasColumn basis.schema t table col column
  pub pairing : List Pair
  pub owned : IsOwned basis.schema t s pairing
  pub fails : (other : State) → FailsAt basis.schema kind.Clash (place_at table.name (paired_key basis.schema.model pairing (shared_entity basis host assoc)) column.name)
      (shared_state basis host assoc) other
