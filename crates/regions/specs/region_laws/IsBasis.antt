-- When a basis tells what the definitions say of a sound schema.
-- Source: the groups of properties and columns of this project's profile, and where it lets links stand, over MSL version 3.
use Rattle.std.specs.Prelude.{◌≡◌, ◌↔◌, ◌<◌, List, AllPairs, Contains, IsTrue, if◌then◌else◌}
use Rattle.round_trip.specs.Words.{SetId, Assoc, LinkFragment, Schema, Entity, Hosted, State, At, key_of}
use Rattle.round_trip.specs.FailsAt.{IsHostedAt}
use Rattle.round_trip.specs.soundness.mappings.Joined.{Member}
use Rattle.round_trip.specs.soundness.mappings.Mappings.{IsSoundSchema}
use Rattle.member_groups.specs.MemberGroups.{ListsJust}
use Rattle.member_groups.specs.Tested.{AreInOneGroup, IsConstant, IsMember, IsTested}
use Rattle.schema_laws.specs.state_demand.Selecting.{DecidesTypes}
use Rattle.regions.specs.Fitting.{DecidesDomains}
use Rattle.regions.specs.Basis.{Basis, Host, IsHostedLink, host_end}

-- the links of the association are hosted at the set, at this end: its link fragment writes this end's key to a whole primary key
pub record IsHostOf (schema : Schema) (s : SetId) (host : Host) : Type 0 where
  pub assoc : Assoc
  pub fragment : LinkFragment
  pub is_assoc : At schema.model.assocs host.assoc.index assoc
  pub is_fragment : Contains schema.mapping.links fragment
  pub of_assoc : fragment.assoc ≡ host.assoc
  pub hosted : IsHostedAt schema fragment.table (if host.first_hosts then fragment.first else fragment.second)
  pub at_set : (host_end host.first_hosts assoc).set ≡ s

-- a sound schema, with answers that are right
pub record IsBasis (basis : Basis) : Type 0 where
  pub sound : IsSoundSchema basis.schema
  pub types : DecidesTypes basis.schema.model basis.is_a
  pub domains : DecidesDomains basis.fits
  pub groups : (one other : Member) → IsMember basis.schema one → IsMember basis.schema other → (basis.group one ≡ basis.group other) ↔ AreInOneGroup basis.schema one other
  pub constants : (member : Member) → IsMember basis.schema member → ListsJust (IsConstant basis.schema member) (basis.constants member)
  pub tested : (member : Member) → IsMember basis.schema member → IsTrue (basis.tested member) ↔ IsTested basis.schema member
  pub hosts : (s : SetId) (host : Host) → Contains (basis.hosts s) host ↔ IsHostOf basis.schema s host
  pub order : (s : SetId) → AllPairs (λ one next. one.assoc.index < next.assoc.index) (basis.hosts s)

-- the links are just those that the entity hosts
pub record AreHostedLinks (basis : Basis) (state : State) (s : SetId) (entity : Entity) (links : List Hosted) : Type 0 where
  pub tells : (hosted : Hosted) → Contains links hosted ↔ IsHostedLink state (basis.hosts s) (key_of basis.schema.model entity) hosted
