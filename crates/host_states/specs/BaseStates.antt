-- A legal state for each region and each key that can stand, with an entity of the region to which nothing refers but what it asks for itself.
-- Source: this project's; CSDL version 3, AssociationSet, Multiplicity and ReferentialConstraint.
use Rattle.std.specs.Prelude.{◌≡◌, ◌≢◌, ◌⊎◌, ◌↔◌, ℕ, ◌<◌, List, All, Any, Contains, Bool, Some, IsTrue, not, if◌then◌else◌}
use Rattle.std.specs.List.{AllZip}
use Rattle.round_trip.specs.Words.{SetId, AssocId, PropId, Value, Null, Kind, EntityModel, Prop, Assoc, Constraint, Entity, Link, State, At, InDomain, IsA, IsLegal, dependent_end, principal_end, entities_in, key_of, key_props, links_in, value_beside, values_of}
use Rattle.edm_types.specs.declared.model.Mult.TheVariants.{One, Many}
use Rattle.round_trip.specs.soundness.models.Constraints.{DependsByKey}
use Rattle.round_trip.specs.soundness.mappings.Joined.{IsDependent}
use Rattle.schema_laws.specs.short_values.Fresh.{fresh, most_indices}
use Rattle.schema_laws.specs.short_values.Places.{is_among}
use Rattle.schema_laws.specs.short_values.Short.{IsShort}
use Rattle.regions.specs.declared.region.Region.{Region}
use Rattle.regions.specs.Basis.{Basis, Host, partner_end}
use Rattle.regions.specs.Patterns.{Valuation}
use Rattle.region_states.specs.defaults.Defaults.{default_valuation}
use Rattle.regions.specs.region_laws.Held.{IsOfRegion}
use Rattle.population.specs.Numbered.{end_of}
use Rattle.population.specs.Principals.{principal_by}
use Rattle.population.specs.declared.placed.PlacedKey.{PlacedKey}
use Rattle.population.specs.Supported.{end_key}
use Rattle.population.specs.Support.{steps}
use Rattle.host_states.specs.FocusStates.{few_hosts, given_by, state_by, wanted_by}

-- the value is in the domain of the property
abbrev pub FitsProp : EntityModel → PropId → Value → Type 0
FitsProp model p value = (declared : Prop) × At model.props p.index declared × InDomain value declared.kind

-- a key of entities of the region: a value for each part, in its domain
abbrev pub IsKeyOf : Basis → Region → List Value → Type 0
IsKeyOf basis region key = AllZip (FitsProp basis.schema.model) (key_props basis.schema.model region.ty) key

-- a key that an entity of the region can have: a value for each part, in its domain, and a short one where the part is a dependent property
pub record IsStatedKey (basis : Basis) (region : Region) (key : List Value) : Type 0 where
  pub fits : IsKeyOf basis region key
  pub short : (p : PropId) → Contains (key_props basis.schema.model region.ty) p → IsDependent basis.schema.model p
      → IsShort (value_beside p (key_props basis.schema.model region.ty) key)

-- no part of the key is a value of the row of numbers
abbrev pub IsOuterKey : ℕ → List Value → Type 0
IsOuterKey outer key = All (λ value. (kind : Kind) (i : ℕ) → i < most_indices → value ≢ fresh kind outer i) key

-- the values where nothing else is said, with this key
abbrev pub keyed_values : Basis → ℕ → Region → List Value → Valuation
keyed_values basis outer region key = record {
  prop = λ p. if is_among p (key_props basis.schema.model region.ty) then value_beside p (key_props basis.schema.model region.ty) key
      else (default_valuation basis outer region).prop p;
  part = (default_valuation basis outer region).part;
}

-- the state with an entity of the region that has the stated key; by an association whose partner's end is `*` it has no link
abbrev pub base_state : Basis → ℕ → Region → List Value → State
base_state basis outer region key =
    state_by basis outer (few_hosts basis region) (wanted_by basis outer (given_by basis outer (few_hosts basis region) region (keyed_values basis outer region key))) region
    (keyed_values basis outer region key)

-- a dependent entity of a constraint that stands in the state has the entity as its principal
pub record IsReferred (model : EntityModel) (state : State) (u : SetId) (entity : Entity) : Type 0 where
  pub assoc : Assoc
  pub constraint : Constraint
  pub is_assoc : Contains model.assocs assoc
  pub constrained : assoc.constraint ≡ Some constraint
  pub to_set : (principal_end assoc constraint).set ≡ u
  pub dependent : Entity
  pub stands : Contains (entities_in state (dependent_end assoc constraint).set) dependent
  pub covers : IsA model dependent.ty (dependent_end assoc constraint).ty
  pub there : All (λ value. value ≢ Null) (values_of model dependent constraint.dependent)
  pub refers : values_of model dependent constraint.dependent ≡ values_of model entity constraint.principal

-- the principals that plain entities ask for lead from the one key to the other
pub data IsLed (model : EntityModel) (outer : ℕ) (from : PlacedKey) : PlacedKey → Type 0 where
  begins : IsLed model outer from from
  goes : (one to : PlacedKey) → IsLed model outer from one → Contains (steps model outer one) to → IsLed model outer from to

-- the property may be null
abbrev pub IsNullable : EntityModel → PropId → Type 0
IsNullable model p = (declared : Prop) × At model.props p.index declared × IsTrue declared.nullable

-- one that may be null is among these
abbrev pub HasNullable : EntityModel → List PropId → Type 0
HasNullable model props = Any (IsNullable model) props

-- the entity asks for a principal by a part of its key and a property that may be null, none of them null, and the principals that follow lead back to it
pub record RefersBack (model : EntityModel) (outer : ℕ) (u : SetId) (entity : Entity) : Type 0 where
  pub assoc : Assoc
  pub constraint : Constraint
  pub is_assoc : Contains model.assocs assoc
  pub constrained : assoc.constraint ≡ Some constraint
  pub at_end : (dependent_end assoc constraint).set ≡ u
  pub covers : IsA model entity.ty (dependent_end assoc constraint).ty
  pub there : All (λ value. value ≢ Null) (values_of model entity constraint.dependent)
  pub by_key : DependsByKey model assoc constraint
  pub nullable : HasNullable model constraint.dependent
  pub back : IsLed model outer (principal_by model assoc constraint entity) (record { set = u; key = key_of model entity })

module _ (basis : Basis) (s : SetId) where
  -- the other end is `1` and asks the entity for a partner; the association isn't hosted at this one
  pub record IsAskedLink (entity : Entity) (a : AssocId) (first : Bool) (assoc : Assoc) : Type 0 where
    pub far_one : (end_of (not first) assoc).mult ≡ One
    pub covers : IsA basis.schema.model entity.ty (end_of first assoc).ty
    pub not_host : ¬ Contains (basis.hosts s) (record { assoc = a; first_hosts = first })

  module _ (region : Region) where
    -- the association is hosted at this end of the entity, the region has a link of it, and the partners are few
    pub record IsOwnLink (a : AssocId) (first : Bool) : Type 0 where
      pub host : Host
      pub is_host : Contains (basis.hosts s) host
      pub of_assoc : host.assoc ≡ a
      pub at_first : host.first_hosts ≡ first
      pub linked : Contains region.linked a
      pub few : (assoc : Assoc) → At basis.schema.model.assocs a.index assoc → (partner_end host.first_hosts assoc).mult ≢ Many

    -- no link names the entity but its own by associations that are hosted at it, and those that ends `1` ask of it
    abbrev pub NoOtherLink : State → Entity → Type 0
    NoOtherLink state entity = (a : AssocId) (assoc : Assoc) → At basis.schema.model.assocs a.index assoc → (link : Link) → Contains (links_in state a) link → (first : Bool)
        → (end_of first assoc).set ≡ s → end_key first link ≡ key_of basis.schema.model entity → IsOwnLink a first ⊎ IsAskedLink entity a first assoc

-- the state is legal and holds an entity of the region with this key; no other link names it, and something refers to it exactly where what it asks for does
pub record IsBaseFor (basis : Basis) (outer : ℕ) (s : SetId) (region : Region) (key : List Value) (state : State) : Type 0 where
  pub legal : IsLegal basis.schema.model state
  pub entity : Entity
  pub of_region : IsOfRegion basis state s entity region
  pub keyed : key_of basis.schema.model entity ≡ key
  pub no_link : NoOtherLink basis s region state entity
  pub referred : IsReferred basis.schema.model state s entity ↔ RefersBack basis.schema.model outer s entity
