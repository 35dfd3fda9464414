-- The state of all entities and links that the query views give.
-- Source: the query views of Melnik, Adya and Bernstein, SIGMOD 2007; the order of entities is that of this project's documents.
use Rattle.std.specs.Prelude.{◌≡◌, ◌⊎◌, ◌<◌, ◌↔◌, List, [], AllPairs, Contains, Bool}
use Rattle.std.specs.List.{AllZip}
use Rattle.round_trip.specs.Words.{SetId, AssocId, TableId, ColId, Value, Place, place_at, Assoc, EntitySet, Entity, State, Tables, At, IsState, entities_in, links_in}
use Rattle.regions.specs.Basis.{Basis}
use Rattle.case_laws.specs.candidates.Rows.{HasRows}
use Rattle.case_laws.specs.candidates.Viewed.{IsViewed, LacksCase}
use Rattle.case_laws.specs.candidates.ViewedLinks.{AreViewedLinks, IsBefore}

-- a set and a key come before another set and key: by the sets' order, and then by that of keys
abbrev pub IsEarlier : SetId → List Value → SetId → List Value → Type 0
IsEarlier u other s key = (u.index < s.index) ⊎ ((u ≡ s) × IsBefore other key)

module _ (basis : Basis) (is_free : TableId → ColId → Bool) (tables : Tables) where
  -- the entities that a set's query view gives at the keys of its rows, in the order of keys
  pub record AreViewed (s : SetId) (entities : List Entity) : Type 0 where
    pub keys : List (List Value)
    pub are : (key : List Value) → Contains keys key ↔ HasRows basis.schema tables s key
    pub rising : AllPairs IsBefore keys
    pub each : AllZip (IsViewed basis is_free tables s) keys entities

  -- a state of all these entities
  pub record HasViewedEntities (state : State) : Type 0 where
    pub shape : IsState basis.schema.model state
    pub sets : (s : SetId) (set : EntitySet) → At basis.schema.model.sets s.index set → AreViewed s (entities_in state s)

  -- Candidate(tables): the state of all these entities, and of the links that are given
  pub record IsCandidate (state : State) : Type 0 where
    pub entities : HasViewedEntities state
    pub assocs : (a : AssocId) (assoc : Assoc) → At basis.schema.model.assocs a.index assoc → AreViewedLinks basis is_free tables a (links_in state a)

  -- the first key of a set, by set and key, whose rows meet no case, told as a place
  pub record IsFirstLack (place : Place) : Type 0 where
    pub s : SetId
    pub set : EntitySet
    pub key : List Value
    pub is_set : At basis.schema.model.sets s.index set
    pub lacks : LacksCase basis is_free tables s key
    pub first : (u : SetId) (other : List Value) → IsEarlier u other s key → ¬ LacksCase basis is_free tables u other
    pub told : place ≡ place_at set.name key []
