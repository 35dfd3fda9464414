-- Legal entity states: the rules S1 to S8.
-- Source: CSDL version 3, EntitySet, EntityType, Property, Key, AssociationSet, Multiplicity and ReferentialConstraint.
use Rattle.std.specs.Prelude.{◌≡◌, ◌≢◌, ◌⊎◌, List, All, Any, AllPairs, Contains, IsTrue, Some, if◌then◌else◌, ⊤}
use Rattle.round_trip.specs.Types.{SetId, PropId, AssocId, Value, Null, EntityModel, Prop, EntitySet, Assoc, End, Mult, Constraint, Entity, Link, At, AtMostOne, InDomain, IsA, IsConcrete, props_of, value_of, values_of, key_of, State, entities_in, links_in, IsIndependent, IsState}
use Rattle.edm_types.specs.declared.model.Mult.TheVariants.{One, ZeroOrOne, Many}

-- prop is a property of the entity's type, declared as told
pub record HasProp (model : EntityModel) (entity : Entity) (prop : PropId) (declared : Prop) : Type 0 where
  pub among : Contains (props_of model entity.ty) prop
  pub is_declared : At model.props prop.index declared

-- S1: the entity's type is concrete, and the element type or under it
pub record HasFittingType (model : EntityModel) (set : EntitySet) (entity : Entity) : Type 0 where
  pub concrete : IsConcrete model entity.ty
  pub under : IsA model entity.ty set.element

-- S2: null stands only in nullable properties
abbrev pub HasAllowedNulls : EntityModel → Entity → Type 0
HasAllowedNulls model entity = (prop : PropId) (declared : Prop) → HasProp model entity prop declared
    → value_of model entity prop ≡ Null → IsTrue declared.nullable

-- S3: every other value is in the domain of its property
abbrev pub HasValuesInDomain : EntityModel → Entity → Type 0
HasValuesInDomain model entity = (prop : PropId) (declared : Prop) → HasProp model entity prop declared
    → (value_of model entity prop ≡ Null) ⊎ InDomain (value_of model entity prop) declared.kind

-- S1 to S4: the entities of one set
pub record IsLegalSet (model : EntityModel) (set : EntitySet) (entities : List Entity) : Type 0 where
  pub types : All (HasFittingType model set) entities
  pub nulls : All (HasAllowedNulls model) entities
  pub domains : All (HasValuesInDomain model) entities
  -- S4: no two hold one key
  pub keys : AllPairs (λ x y. key_of model x ≢ key_of model y) entities

-- an entity of this key stands at the end: in the end's set, of the end's type or one under it
abbrev pub HasEntityAt : EntityModel → State → End → List Value → Type 0
HasEntityAt model state end key = Any (λ entity. IsA model entity.ty end.ty × (key_of model entity ≡ key)) (entities_in state end.set)

-- as many links with the property as the multiplicity allows: exactly one, at most one, any number
abbrev pub HasCount : Mult → (Link → Type 0) → List Link → Type 0
HasCount One P links = Any P links × AtMostOne P links
HasCount ZeroOrOne P links = AtMostOne P links
HasCount Many P links = ⊤

-- S5 to S7: the links of one independent association set
pub record AreLegalLinks (model : EntityModel) (state : State) (assoc : Assoc) (links : List Link) : Type 0 where
  -- S5: each key of a link is that of an entity at that end
  pub ends : All (λ link. HasEntityAt model state assoc.first link.first × HasEntityAt model state assoc.second link.second) links
  -- S6: no link stands twice
  pub once : AllPairs (λ link other. link ≢ other) links
  -- S7: each entity at an end has as many partners as the other end's multiplicity allows
  pub first_partners : All (λ entity. IsA model entity.ty assoc.first.ty
      → HasCount assoc.second.mult (λ link. link.first ≡ key_of model entity) links) (entities_in state assoc.first.set)
  pub second_partners : All (λ entity. IsA model entity.ty assoc.second.ty
      → HasCount assoc.first.mult (λ link. link.second ≡ key_of model entity) links) (entities_in state assoc.second.set)

-- the end at which the dependent entities stand
abbrev pub dependent_end : Assoc → Constraint → End
dependent_end assoc constraint = if constraint.dependent_first then assoc.first else assoc.second

-- the end at which the principal entities stand
abbrev pub principal_end : Assoc → Constraint → End
principal_end assoc constraint = if constraint.dependent_first then assoc.second else assoc.first

-- an entity of the principal's set has these values in its principal list
abbrev pub HasPrincipal : EntityModel → State → Assoc → Constraint → List Value → Type 0
HasPrincipal model state assoc constraint values =
    Any (λ entity. values_of model entity constraint.principal ≡ values) (entities_in state (principal_end assoc constraint).set)

-- S8: each entity at the dependent end whose dependent values are all not null has its principal
abbrev pub HavePrincipals : EntityModel → State → Assoc → Constraint → Type 0
HavePrincipals model state assoc constraint = All (λ entity. IsA model entity.ty (dependent_end assoc constraint).ty
    → All (λ value. value ≢ Null) (values_of model entity constraint.dependent)
    → HasPrincipal model state assoc constraint (values_of model entity constraint.dependent))
    (entities_in state (dependent_end assoc constraint).set)

-- the state has the model's shape and keeps S1 to S8
pub record IsLegal (model : EntityModel) (state : State) : Type 0 where
  pub shape : IsState model state
  pub sets : (s : SetId) (set : EntitySet) → At model.sets s.index set → IsLegalSet model set (entities_in state s)
  pub links : (a : AssocId) (assoc : Assoc) → At model.assocs a.index assoc → IsIndependent assoc → AreLegalLinks model state assoc (links_in state a)
  pub principals : (a : AssocId) (assoc : Assoc) (constraint : Constraint) → At model.assocs a.index assoc
      → assoc.constraint ≡ Some constraint → HavePrincipals model state assoc constraint
