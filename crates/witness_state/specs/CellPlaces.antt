-- Places of cells, by the entity whose row it is.
-- Source: this project's choice of how places are told.
use Rattle.std.specs.Prelude.{◌≡◌, List}
use Rattle.round_trip.specs.Words.{SetId, TableId, ColId, Column, Entity, Pair, Place, Schema, Table, place_at}
use Rattle.round_trip.specs.FailsAt.{HasColumn}
use Rattle.schema_laws.specs.state_demand.Owners.{IsOwned, paired_key}

-- the place is that of a cell in the row of an entity, in a table that the set owns
pub record IsCellPlace (schema : Schema) (s : SetId) (t : TableId) (c : ColId) (entity : Entity) (place : Place) : Type 0 where
  pub table : Table
  pub column : Column
  pub has_column : HasColumn schema t table c column
  pub pairing : List Pair
  pub owned : IsOwned schema t s pairing
  pub place_is : place ≡ place_at table.name (paired_key schema.model pairing entity) column.name
