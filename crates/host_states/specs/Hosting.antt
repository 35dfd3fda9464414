-- Which states there are: for each region one that holds an entity of it, and two that differ in this entity alone. The tests for failing states use
-- these laws and nothing else about which states are legal.
-- Source: this project's; CSDL version 3, EntitySet, AssociationSet, Multiplicity and ReferentialConstraint.
use Rattle.std.specs.Prelude.{◌≡◌, ◌≢◌, ◌↔◌, ℕ, List, [], Contains}
use Rattle.round_trip.specs.Words.{SetId, TableId, PropId, Value, Assoc, Entity, Link, LinkFragment, State, IsLegal, entities_in, links_in, key_of, key_props, props_of}
use Rattle.schema_laws.specs.state_demand.Owners.{IsJoinedTo}
use Rattle.regions.specs.declared.region.Region.{Region}
use Rattle.regions.specs.declared.pattern.Symbol.TheVariants as symbol
use Rattle.regions.specs.Basis.{Basis, Host}
use Rattle.regions.specs.Patterns.{Valuation}
use Rattle.regions.specs.Regions.{regions_of}
use Rattle.regions.specs.Settled.{possible, single}
use Rattle.regions.specs.region_laws.Partners.{HasFewPartners}
use Rattle.regions.specs.region_laws.RegionAt.{links_at}
use Rattle.regions.specs.region_laws.pattern.Allowed.{RegionValues}
use Rattle.region_states.specs.defaults.Admissible.{IsAdmissible}
use Rattle.region_states.specs.Entities.{focus_entity}
use Rattle.region_states.specs.HoldsFocus.{HoldsFocus}

-- at each other set and key the two states have the same entity or none, and the same hosted links; and joined associations have the same links
pub record DifferAtMostAt (basis : Basis) (s : SetId) (key : List Value) (c d : State) : Type 0 where
  pub entities : (u : SetId) (entity : Entity) → ¬ ((u ≡ s) × (key_of basis.schema.model entity ≡ key))
      → Contains (entities_in c u) entity ↔ Contains (entities_in d u) entity
  pub hosted : (u : SetId) (host : Host) → Contains (basis.hosts u) host → (other : List Value) → ¬ ((u ≡ s) × (other ≡ key))
      → (link : Link) → Contains (links_at c host other) link ↔ Contains (links_at d host other) link
  pub joined : (t : TableId) (fragment : LinkFragment) (assoc : Assoc) → IsJoinedTo basis.schema t fragment assoc
      → (link : Link) → Contains (links_in c fragment.assoc) link ↔ Contains (links_in d fragment.assoc) link

-- the one state holds an entity of the one region, the other one of the other region with the same key, and else they don't differ
pub record HoldRivals (basis : Basis) (one two : Region) (values others : Valuation) (c d : State) : Type 0 where
  pub first : HoldsFocus basis one values c
  pub second : HoldsFocus basis two others d
  pub alike : DifferAtMostAt basis one.set (key_of basis.schema.model (focus_entity basis one values)) c d

-- the one state holds an entity of the region, the other one none of its key, and else they don't differ
pub record LeavesFocusOut (basis : Basis) (region : Region) (values : Valuation) (c d : State) : Type 0 where
  pub first : HoldsFocus basis region values c
  pub second : IsLegal basis.schema.model d
  pub left_out : (entity : Entity) → Contains (entities_in d region.set) entity
      → key_of basis.schema.model entity ≢ key_of basis.schema.model (focus_entity basis region values)
  pub alike : DifferAtMostAt basis region.set (key_of basis.schema.model (focus_entity basis region values)) c d

-- no hosted association lets an entity have any number of partners
abbrev pub HaveFewPartners : Basis → Type 0
HaveFewPartners basis = (u : SetId) → HasFewPartners basis u

-- the region has no flag, and no property of its type may have several values, but for the key
pub record HasOneEntityPerKey (basis : Basis) (region : Region) : Type 0 where
  pub no_links : region.linked ≡ []
  pub single : (p : PropId) → Contains (props_of basis.schema.model region.ty) p → ¬ Contains (key_props basis.schema.model region.ty) p
      → (value : Value) × (possible basis.schema.model region.atoms (symbol.Prop p) ≡ single value)

module _ (basis : Basis) (outer : ℕ) where
  -- for each region and admissible values, this state holds an entity that has them
  pub record HostsFocuses (state : Region → Valuation → State) : Type 0 where
    pub holds : (at : RegionValues basis) → IsAdmissible basis outer at.region at.values → HoldsFocus basis at.region at.values (state at.region at.values)

  -- two regions of a set with the same flags, equal or not, and admissible values of both with the same key and the same partners
  pub record RivalPair : Type 0 where
    pub s : SetId
    pub one : Region
    pub two : Region
    pub is_one : Contains (regions_of basis s) one
    pub is_two : Contains (regions_of basis s) two
    pub linked : one.linked ≡ two.linked
    pub values : Valuation
    pub others : Valuation
    pub admissible : IsAdmissible basis outer one values
    pub others_admissible : IsAdmissible basis outer two others
    pub partners : values.part ≡ others.part
    pub keys : key_of basis.schema.model (focus_entity basis one values) ≡ key_of basis.schema.model (focus_entity basis two others)

  -- for each such pair, these states hold rivals
  pub record HostsRivals (states : Region → Valuation → Region → Valuation → State × State) : Type 0 where
    pub hold : HaveFewPartners basis → (pair : RivalPair) → HoldRivals basis pair.one pair.two pair.values pair.others
        (states pair.one pair.values pair.two pair.others).0 (states pair.one pair.values pair.two pair.others).1

  -- for a region that has one entity for each key alone, these states hold it or leave it out
  pub record LeavesOut (states : Region → Valuation → State × State) : Type 0 where
    pub leave : HaveFewPartners basis → (at : RegionValues basis) → HasOneEntityPerKey basis at.region → IsAdmissible basis outer at.region at.values
        → LeavesFocusOut basis at.region at.values (states at.region at.values).0 (states at.region at.values).1
