-- States that hold an entity of a region with its partners.
-- Source: this project's; CSDL version 3, EntitySet and AssociationSet.
use Rattle.std.specs.Prelude.{Contains}
use Rattle.round_trip.specs.Words.{State, IsLegal, entities_in}
use Rattle.regions.specs.declared.region.Region.{Region}
use Rattle.regions.specs.Basis.{Basis}
use Rattle.regions.specs.Patterns.{Valuation}
use Rattle.regions.specs.region_laws.Partners.{HasPartners}
use Rattle.region_states.specs.Entities.{focus_entity}

-- the state is legal and holds an entity of the region that has these values; it hosts just one link for each flag of the region, to the key that is told
pub record HoldsFocus (basis : Basis) (region : Region) (values : Valuation) (state : State) : Type 0 where
  pub legal : IsLegal basis.schema.model state
  pub stands : Contains (entities_in state region.set) (focus_entity basis region values)
  pub partners : HasPartners basis state region.set (focus_entity basis region values) region values.part
