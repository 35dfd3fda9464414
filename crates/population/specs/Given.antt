-- When given entities, keys and links make a legal state.
-- Source: CSDL version 3, EntitySet, EntityType, Key, AssociationSet, Multiplicity and ReferentialConstraint.
use Rattle.std.specs.Prelude.{◌≡◌, ◌≢◌, ℕ, ◌<◌, ◌≤◌, List, Any, AllPairs, Contains, Bool, not, length}
use Rattle.std.specs.List.{AllZip}
use Rattle.round_trip.specs.Words.{SetId, AssocId, PropId, Value, EntityModel, Prop, EntitySet, Assoc, End, Entity, Link, At, HasAllowedNulls, HasFittingType, HasValuesInDomain, IsA, IsEntity, key_of}
use Rattle.round_trip.specs.soundness.Lookups.{set_key}
use Rattle.round_trip.specs.soundness.models.Models.{IsSoundModel}
use Rattle.edm_types.specs.declared.model.Mult.TheVariants.{Many}
use Rattle.emc_base.specs.Lists.{AreApart}
use Rattle.schema_laws.specs.short_values.Short.{IsOfSort, IsShort}
use Rattle.population.specs.Plain.{plain}
use Rattle.population.specs.Numbered.{end_of, number_count, numbered_key}
use Rattle.population.specs.Principals.{PlacedKey, principals}
use Rattle.population.specs.Supported.{Placed, PlacedLink, end_key, given_in, keys_in, links_of, stands_in}

-- the entity keeps the rules on types and values, in its set
pub record StandsWell (model : EntityModel) (u : SetId) (entity : Entity) : Type 0 where
  pub is_entity : IsEntity model entity
  pub fits : (set : EntitySet) → At model.sets u.index set → HasFittingType model set entity
  pub nulls : HasAllowedNulls model entity
  pub domains : HasValuesInDomain model entity

-- the value is short, and of the sort of the property
pub record IsShortFor (model : EntityModel) (p : PropId) (value : Value) : Type 0 where
  pub declared : Prop
  pub is_declared : At model.props p.index declared
  pub short : IsShort value
  pub of_sort : IsOfSort declared.kind value

-- each part of a key of the set is short
abbrev pub HasShortParts : EntityModel → SetId → List Value → Type 0
HasShortParts model u key = AllZip (IsShortFor model) (set_key model u) key

-- a sound model of few associations, and one of five rows of numbers
pub record HasNumbers (model : EntityModel) (outer : ℕ) : Type 0 where
  pub sound : IsSoundModel model
  pub few : length model.assocs ≤ 256
  pub row : outer ≤ 4

-- no number's key is this one
abbrev pub IsNotNumbered : EntityModel → ℕ → SetId → List Value → Type 0
IsNotNumbered model outer u key = (number : ℕ) → number < number_count model → key ≢ numbered_key model outer u number

-- the given entities keep the rules on types and values, and their keys are different, also from those of numbers
pub record AreGiven (model : EntityModel) (outer : ℕ) (given : List Placed) : Type 0 where
  pub well : (u : SetId) (entity : Entity) → Contains (given_in given u) entity → StandsWell model u entity
  pub apart : (u : SetId) → AllPairs (λ x y. key_of model x ≢ key_of model y) (given_in given u)
  pub not_numbered : (u : SetId) (entity : Entity) → Contains (given_in given u) entity → IsNotNumbered model outer u (key_of model entity)

module _ (model : EntityModel) (outer : ℕ) (given : List Placed) (keys : List PlacedKey) where
  -- an entity of the key stands in the set
  abbrev pub IsThere : PlacedKey → Type 0
  IsThere placed = Any (λ entity. key_of model entity ≡ placed.key) (stands_in model outer given keys placed.set)

  -- the keys are short and different from each other, from those of given entities and from those of numbers; and each principal of a given entity,
  -- and of the plain entity of each key, is there
  pub record AreKeys : Type 0 where
    pub short : (u : SetId) (key : List Value) → Contains (keys_in keys u) key → HasShortParts model u key
    pub once : (u : SetId) → AreApart (keys_in keys u)
    pub not_given : (u : SetId) (key : List Value) → Contains (keys_in keys u) key → (entity : Entity) → Contains (given_in given u) entity → key_of model entity ≢ key
    pub not_numbered : (u : SetId) (key : List Value) → Contains (keys_in keys u) key → IsNotNumbered model outer u key
    pub of_given : (u : SetId) (entity : Entity) → Contains (given_in given u) entity → (to : PlacedKey) → Contains (principals model u entity) to → IsThere to
    pub of_keys : (u : SetId) (set : EntitySet) → At model.sets u.index set → (key : List Value) → Contains (keys_in keys u) key
        → (to : PlacedKey) → Contains (principals model u (plain model outer 0 set.element key)) to → IsThere to

  -- an entity of the key stands at the end
  abbrev pub StandsAtEnd : End → List Value → Type 0
  StandsAtEnd end key = Any (λ entity. IsA model entity.ty end.ty × (key_of model entity ≡ key)) (stands_in model outer given keys end.set)

  -- the given links are different, their ends stand, and an entity has one at most where the other end doesn't allow any number
  pub record AreLinked (links : List PlacedLink) : Type 0 where
    pub once : (a : AssocId) → AreApart (links_of links a)
    pub ends : (a : AssocId) (assoc : Assoc) → At model.assocs a.index assoc → (link : Link) → Contains (links_of links a) link
        → (first : Bool) → StandsAtEnd (end_of first assoc) (end_key first link)
    pub few : (a : AssocId) (assoc : Assoc) → At model.assocs a.index assoc → (first : Bool) → (end_of (not first) assoc).mult ≢ Many
        → AllPairs (λ one two. end_key first one ≢ end_key first two) (links_of links a)

-- the wanted keys are short, and hold each principal of a given entity
pub record AreWanted (model : EntityModel) (given : List Placed) (wanted : List PlacedKey) : Type 0 where
  pub short : (placed : PlacedKey) → Contains wanted placed → HasShortParts model placed.set placed.key
  pub of_given : (u : SetId) (entity : Entity) → Contains (given_in given u) entity → (to : PlacedKey) → Contains (principals model u entity) to → Contains wanted to
