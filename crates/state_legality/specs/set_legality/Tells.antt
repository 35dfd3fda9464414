-- What is told of the sets of a state.
-- Source: the rules S1 to S4 of `Legal` in `round_trip`.
use Rattle.std.specs.Prelude.{◌≡◌, ◌≢◌, ◌⊎◌, ℕ, List, [], AllPairs, Option, slice_get, unwrap_or}
use Rattle.groupings.specs.least_fault.Least.{IsLeast}
use Rattle.round_trip.specs.Words.{EntityModel, EntitySet, Entity, Link, State, At, HasFittingType, IsLegalSet, key_of}
use Rattle.round_trip.specs.legality.Breaches.{BreaksType, BreaksNull, BreaksDomain, BreaksKey}
use Rattle.entity_state.specs.breach_order.Founds.{found_cmp}
use Rattle.entity_state.specs.declared.breach_order.found.Found.{Found}
use Rattle.state_legality.specs.set_legality.Props.{FitsProps}

-- the state of these lists
abbrev pub state_of : List (List Entity) → List (List Link) → State
state_of entities links = record { entities = entities; links = links }

-- the entities of a set by its number; none where there is no list for it
abbrev pub entities_numbered : List (List Entity) → ℕ → List Entity
entities_numbered lists s = unwrap_or (slice_get lists s) []

-- what was found is a breach of S1 to S4
abbrev pub BreaksSets : EntityModel → State → Found → Type 0
BreaksSets model state found =
    ((found.rule ≡ 1) × BreaksType model state found.spot found.place)
    ⊎ ((found.rule ≡ 2) × BreaksNull model state found.spot found.place)
    ⊎ ((found.rule ≡ 3) × BreaksDomain model state found.spot found.place)
    ⊎ ((found.rule ≡ 4) × BreaksKey model state found.spot found.place)

-- it is the first breach of S1 to S4, or there is none, whatever the links are
abbrev pub IsFirstInSets : EntityModel → List (List Entity) → Option Found → Type 0
IsFirstInSets model entities found = (links : List (List Link)) → IsLeast found_cmp (BreaksSets model (state_of entities links)) found

-- each of these sets keeps S1 to S4
abbrev pub HaveLegalSets : EntityModel → List EntitySet → List (List Entity) → Type 0
HaveLegalSets model sets entities = (s : ℕ) (set : EntitySet) → At sets s set → IsLegalSet model set (entities_numbered entities s)

-- all sets of the model do
abbrev pub AreLegalSets : EntityModel → List (List Entity) → Type 0
AreLegalSets model entities = HaveLegalSets model model.sets entities

-- the entity keeps S1 to S3
pub record FitsSet (model : EntityModel) (set : EntitySet) (entity : Entity) : Type 0 where
  pub typed : HasFittingType model set entity
  pub props : FitsProps model entity

-- no two entities have one key
abbrev pub KeysApart : EntityModel → List Entity → Type 0
KeysApart model entities = AllPairs (λ one other. key_of model one ≢ key_of model other) entities
