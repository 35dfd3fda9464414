-- Where a state breaks a rule, and which breach is told: the least rule, at its first place.
-- A spot orders the places of one rule: by set or association number, then by the order of the list, then by end or property.
-- Source: the rules of `Legal`.
use Rattle.std.specs.Prelude.{◌≡◌, ◌≢◌, ◌⊎◌, ℕ, ◌<◌, ◌≤◌, List, [], ◌∷◌, ◌++◌, All, Some, false, codes}
use Rattle.std.specs.Ordering.{nat_cmp}
use Rattle.std.specs.declared.cmp.Ordering.TheVariants.{Greater}
use Rattle.std.specs.Cmp.Lexicographic.{slice_cmp}
use Rattle.round_trip.specs.Types.{PropId, Value, Null, Place, place_at, EntityModel, Prop, EntitySet, Assoc, End, Mult, Constraint, Entity, Link, Breach, At, InDomain, IsA, props_of, value_of, values_of, key_of, State, entities_in, links_in, IsIndependent}
use Rattle.round_trip.specs.legality.Legal.{HasFittingType, HasEntityAt, HasCount, HasPrincipal, dependent_end}

-- the breach told is one, no smaller rule is broken, and its rule is broken at no earlier spot
pub record IsFirstBreach (Breaks : ℕ → List ℕ → Place → Type 0) (breach : Breach) : Type 0 where
  pub spot : List ℕ
  pub broken : Breaks breach.rule spot breach.place
  pub least : (rule : ℕ) (other : List ℕ) (place : Place) → Breaks rule other place → breach.rule ≤ rule
  pub first : (other : List ℕ) (place : Place) → Breaks breach.rule other place → slice_cmp nat_cmp spot other ≢ Greater

-- the i-th entity of the s-th set
pub record StandsIn (model : EntityModel) (state : State) (s : ℕ) (set : EntitySet) (i : ℕ) (entity : Entity) : Type 0 where
  pub is_set : At model.sets s set
  pub is_entity : At (entities_in state (record { index = s })) i entity

-- the i-th link of the a-th association set, which is independent
pub record LinksIn (model : EntityModel) (state : State) (a : ℕ) (assoc : Assoc) (i : ℕ) (link : Link) : Type 0 where
  pub is_assoc : At model.assocs a assoc
  pub independent : IsIndependent assoc
  pub is_link : At (links_in state (record { index = a })) i link

-- S1: a type that is abstract, or not under the element type
pub record BreaksType (model : EntityModel) (state : State) (spot : List ℕ) (place : Place) : Type 0 where
  pub s : ℕ
  pub i : ℕ
  pub set : EntitySet
  pub entity : Entity
  pub stands : StandsIn model state s set i entity
  pub spot_is : spot ≡ s ∷ i ∷ []
  pub place_is : place ≡ place_at set.name (key_of model entity) (codes "$type")
  pub broken : ¬ HasFittingType model set entity

-- an entity's j-th property, at which S2 or S3 may be broken
pub record StandsAtProp (model : EntityModel) (state : State) (spot : List ℕ) (place : Place) (value : Value) (declared : Prop) : Type 0 where
  pub s : ℕ
  pub i : ℕ
  pub j : ℕ
  pub set : EntitySet
  pub entity : Entity
  pub prop : PropId
  pub stands : StandsIn model state s set i entity
  pub is_prop : At (props_of model entity.ty) j prop
  pub is_declared : At model.props prop.index declared
  pub value_is : value ≡ value_of model entity prop
  pub spot_is : spot ≡ s ∷ i ∷ j ∷ []
  pub place_is : place ≡ place_at set.name (key_of model entity) declared.name

-- S2: null in a property that isn't nullable
abbrev pub BreaksNull : EntityModel → State → List ℕ → Place → Type 0
BreaksNull model state spot place = (declared : Prop) × StandsAtProp model state spot place Null declared × (declared.nullable ≡ false)

-- S3: a value outside the domain
abbrev pub BreaksDomain : EntityModel → State → List ℕ → Place → Type 0
BreaksDomain model state spot place = (value : Value) × (declared : Prop) × StandsAtProp model state spot place value declared × (value ≢ Null) × ¬ InDomain value declared.kind

-- S4: an entity that has the key of one before it
pub record BreaksKey (model : EntityModel) (state : State) (spot : List ℕ) (place : Place) : Type 0 where
  pub s : ℕ
  pub i : ℕ
  pub earlier : ℕ
  pub set : EntitySet
  pub entity : Entity
  pub other : Entity
  pub stands : StandsIn model state s set i entity
  pub other_stands : StandsIn model state s set earlier other
  pub before : earlier < i
  pub same : key_of model other ≡ key_of model entity
  pub spot_is : spot ≡ s ∷ i ∷ []
  pub place_is : place ≡ place_at set.name (key_of model entity) []

-- S5: a link at an end of which no such entity stands; the first end counts as 0 and the second as 1
pub record BreaksEnd (model : EntityModel) (state : State) (spot : List ℕ) (place : Place) : Type 0 where
  pub a : ℕ
  pub i : ℕ
  pub assoc : Assoc
  pub link : Link
  pub stands : LinksIn model state a assoc i link
  pub broken : ((spot ≡ a ∷ i ∷ 0 ∷ []) × (place ≡ place_at assoc.set_name (link.first ++ link.second) assoc.first.role) × ¬ HasEntityAt model state assoc.first link.first)
      ⊎ ((spot ≡ a ∷ i ∷ 1 ∷ []) × (place ≡ place_at assoc.set_name (link.first ++ link.second) assoc.second.role) × ¬ HasEntityAt model state assoc.second link.second)

-- S6: a link that stands before it too
pub record BreaksOnce (model : EntityModel) (state : State) (spot : List ℕ) (place : Place) : Type 0 where
  pub a : ℕ
  pub i : ℕ
  pub earlier : ℕ
  pub assoc : Assoc
  pub link : Link
  pub stands : LinksIn model state a assoc i link
  pub other_stands : LinksIn model state a assoc earlier link
  pub before : earlier < i
  pub spot_is : spot ≡ a ∷ i ∷ []
  pub place_is : place ≡ place_at assoc.set_name (link.first ++ link.second) []

-- an entity at one end of an independent association, whose number of partners the other end's multiplicity forbids
pub record HasWrongCount (model : EntityModel) (state : State) (a : ℕ) (assoc : Assoc) (end : End) (mult : Mult) (key_at : Link → List Value) (i : ℕ) (place : Place) : Type 0 where
  pub entity : Entity
  pub is_assoc : At model.assocs a assoc
  pub independent : IsIndependent assoc
  pub stands : At (entities_in state end.set) i entity
  pub typed : IsA model entity.ty end.ty
  pub broken : ¬ HasCount mult (λ link. key_at link ≡ key_of model entity) (links_in state (record { index = a }))
  pub place_is : place ≡ place_at assoc.set_name (key_of model entity) end.role

-- S7: the entities at the first end are tried before those at the second
abbrev pub BreaksCount : EntityModel → State → List ℕ → Place → Type 0
BreaksCount model state spot place = (a i : ℕ) × (assoc : Assoc) ×
    (((spot ≡ a ∷ 0 ∷ i ∷ []) × HasWrongCount model state a assoc assoc.first assoc.second.mult (λ link. link.first) i place)
    ⊎ ((spot ≡ a ∷ 1 ∷ i ∷ []) × HasWrongCount model state a assoc assoc.second assoc.first.mult (λ link. link.second) i place))

-- S8: an entity at the dependent end without its principal; the place names the dependent's set
pub record BreaksPrincipal (model : EntityModel) (state : State) (spot : List ℕ) (place : Place) : Type 0 where
  pub a : ℕ
  pub i : ℕ
  pub assoc : Assoc
  pub constraint : Constraint
  pub set : EntitySet
  pub entity : Entity
  pub is_assoc : At model.assocs a assoc
  pub constrained : assoc.constraint ≡ Some constraint
  pub stands : StandsIn model state (dependent_end assoc constraint).set.index set i entity
  pub typed : IsA model entity.ty (dependent_end assoc constraint).ty
  pub not_null : All (λ value. value ≢ Null) (values_of model entity constraint.dependent)
  pub broken : ¬ HasPrincipal model state assoc constraint (values_of model entity constraint.dependent)
  pub spot_is : spot ≡ a ∷ i ∷ []
  pub place_is : place ≡ place_at set.name (key_of model entity) assoc.set_name

-- the state breaks the rule at the spot, which is told as the place
abbrev pub BreaksRule : EntityModel → State → ℕ → List ℕ → Place → Type 0
BreaksRule model state rule spot place =
    ((rule ≡ 1) × BreaksType model state spot place)
    ⊎ ((rule ≡ 2) × BreaksNull model state spot place)
    ⊎ ((rule ≡ 3) × BreaksDomain model state spot place)
    ⊎ ((rule ≡ 4) × BreaksKey model state spot place)
    ⊎ ((rule ≡ 5) × BreaksEnd model state spot place)
    ⊎ ((rule ≡ 6) × BreaksOnce model state spot place)
    ⊎ ((rule ≡ 7) × BreaksCount model state spot place)
    ⊎ ((rule ≡ 8) × BreaksPrincipal model state spot place)

-- what is told of a state that isn't legal
abbrev pub IsBreachOf : EntityModel → State → Breach → Type 0
IsBreachOf model state breach = IsFirstBreach (BreaksRule model state) breach
