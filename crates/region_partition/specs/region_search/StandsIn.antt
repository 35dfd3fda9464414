-- When an entity stands in a set of a legal state.
-- Source: the legal states of CSDL version 3, and where this project's profile lets links stand.
use Rattle.std.specs.Prelude.{List, Contains}
use Rattle.round_trip.specs.Words.{Entity, Hosted, IsLegal, SetId, State, entities_in}
use Rattle.regions.specs.Basis.{Basis}
use Rattle.regions.specs.region_laws.IsBasis.{AreHostedLinks}

-- a legal state has the entity in the set, and these are the links that it hosts
pub record StandsIn (basis : Basis) (s : SetId) (entity : Entity) (links : List Hosted) : Type 0 where
  pub state : State
  pub legal : IsLegal basis.schema.model state
  pub stands : Contains (entities_in state s) entity
  pub hosted : AreHostedLinks basis state s entity links
