-- Entities and links of legal states, and the regions that hold entities with their links and their partners.
-- Source: MSL version 3, MappingFragment and AssociationSetMapping; CSDL version 3, EntitySet and AssociationSet.
use Rattle.std.specs.Prelude.{◌≡◌, List, Contains, Bool}
use Rattle.round_trip.specs.Words.{SetId, TableId, AssocId, PropId, Value, Assoc, Entity, Hosted, Link, LinkFragment, Pair, State, At, IsLegal, entities_in, links_in, written_key}
use Rattle.schema_laws.specs.state_demand.Owners.{IsJoinedTo, IsOwned, StandsAt}
use Rattle.schema_laws.specs.state_demand.Writings.{link_writing}
use Rattle.regions.specs.declared.region.Region.{Region}
use Rattle.regions.specs.Basis.{Basis}
use Rattle.regions.specs.Regions.{Holds, regions_of}
use Rattle.regions.specs.region_laws.IsBasis.{AreHostedLinks}
use Rattle.regions.specs.region_laws.Partners.{HasPartners}
use Rattle.regions.specs.region_laws.pattern.Allowed.{ArePartners}

-- a region of a set, with an entity that it holds, of whatever state
pub record Holding (basis : Basis) : Type 0 where
  pub s : SetId
  pub region : Region
  pub entity : Entity
  pub links : List Hosted
  pub listed : Contains (regions_of basis s) region
  pub holds : Holds basis region entity links

-- an entity of a set in a legal state
pub record Standing (basis : Basis) : Type 0 where
  pub state : State
  pub legal : IsLegal basis.schema.model state
  pub s : SetId
  pub entity : Entity
  pub stands : Contains (entities_in state s) entity

-- an entity of the set that one of the set's regions holds with the links that it hosts
pub record IsOfRegion (basis : Basis) (state : State) (s : SetId) (entity : Entity) (region : Region) : Type 0 where
  pub stands : Contains (entities_in state s) entity
  pub listed : Contains (regions_of basis s) region
  pub links : List Hosted
  pub hosted : AreHostedLinks basis state s entity links
  pub holds : Holds basis region entity links

-- one that a region holds with its partners, one for each flag of the region; the parts are those of its partners' keys
pub record IsHeldAt (basis : Basis) (state : State) (s : SetId) (entity : Entity) (region : Region) (part : AssocId → Bool → PropId → Value) : Type 0 where
  pub stands : Contains (entities_in state s) entity
  pub listed : Contains (regions_of basis s) region
  pub links : List Hosted
  pub holds : Holds basis region entity links
  pub partners : HasPartners basis state s entity region part

-- an entity of a legal state, and the region that holds it
pub record HeldEntity (basis : Basis) : Type 0 where
  pub state : State
  pub legal : IsLegal basis.schema.model state
  pub s : SetId
  pub entity : Entity
  pub region : Region
  pub of_region : IsOfRegion basis state s entity region

-- the same, with the parts of a partner's key for each flag of the region
pub record PartneredEntity (basis : Basis) : Type 0 where
  pub held : HeldEntity basis
  pub part : AssocId → Bool → PropId → Value
  pub partners : ArePartners basis held.region held.of_region.links part

-- an entity of a legal state, and the region that holds it with its partners
pub record LinkedEntity (basis : Basis) : Type 0 where
  pub state : State
  pub legal : IsLegal basis.schema.model state
  pub s : SetId
  pub entity : Entity
  pub region : Region
  pub part : AssocId → Bool → PropId → Value
  pub held : IsHeldAt basis state s entity region part

-- the entity is that of the row of this key, in a table that its set owns
pub record IsAtRow (basis : Basis) (state : State) (s : SetId) (entity : Entity) (t : TableId) (key : List Value) : Type 0 where
  pub pairing : List Pair
  pub owned : IsOwned basis.schema t s pairing
  pub at : StandsAt basis.schema state s pairing key entity

-- a link of a legal state
pub record StandingLink (basis : Basis) : Type 0 where
  pub state : State
  pub legal : IsLegal basis.schema.model state
  pub a : AssocId
  pub assoc : Assoc
  pub is_assoc : At basis.schema.model.assocs a.index assoc
  pub link : Link
  pub stands : Contains (links_in state a) link

-- the link is that of the row of this key, in the table of its joined association
pub record IsAtLinkRow (basis : Basis) (state : State) (fragment : LinkFragment) (assoc : Assoc) (link : Link) (t : TableId) (key : List Value) : Type 0 where
  pub joined : IsJoinedTo basis.schema t fragment assoc
  pub stands : Contains (links_in state fragment.assoc) link
  pub at_key : key ≡ written_key basis.schema.store (link_writing basis.schema.model fragment assoc link)

-- the row of a link of a legal state, in the table of its joined association
pub record LinkRow (basis : Basis) : Type 0 where
  pub state : State
  pub legal : IsLegal basis.schema.model state
  pub fragment : LinkFragment
  pub assoc : Assoc
  pub link : Link
  pub t : TableId
  pub key : List Value
  pub at : IsAtLinkRow basis state fragment assoc link t key
