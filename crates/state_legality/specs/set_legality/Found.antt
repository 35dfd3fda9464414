-- What is found in one set, and at one of its entities.
-- Source: the rules S1 to S4 of `Legal` in `round_trip`.
use Rattle.std.specs.Prelude.{◌⊎◌, ℕ, List, [], map}
use Rattle.groupings.specs.least_fault.Least.{Among}
use Rattle.round_trip.specs.Words.{TypeId, place_at, EntityModel, EntitySet, Entity, key_of, props_of}
use Rattle.entity_state.specs.declared.breach_order.found.Found.{Found}
use Rattle.entity_state.specs.breach_order.Repeats.{IsFoundRepeat}
use Rattle.state_legality.specs.set_legality.Props.{IsPropBreach}
use Rattle.state_legality.specs.set_legality.Types.{IsFitting, IsTypeBreach}

-- a breach of S1 to S3 at the i-th entity of the s-th set, where Fits holds of the types that it may have
abbrev pub IsEntityBreach : EntityModel → (TypeId → Type 0) → ℕ → EntitySet → ℕ → Entity → Found → Type 0
IsEntityBreach model Fits s set i entity found = IsTypeBreach model Fits s set i entity found ⊎ Among (IsPropBreach model s set i entity) (props_of model entity.ty) found

-- a breach of S4 in the s-th set
abbrev pub IsKeyBreach : EntityModel → ℕ → EntitySet → List Entity → Found → Type 0
IsKeyBreach model s set entities = IsFoundRepeat 4 s (λ key. place_at set.name key []) (map (key_of model) entities)

-- a breach of S1 to S4 in the s-th set, which has these entities
abbrev pub IsSetBreach : EntityModel → ℕ → EntitySet → List Entity → Found → Type 0
IsSetBreach model s set entities found = Among (IsEntityBreach model (IsFitting model set.element) s set) entities found ⊎ IsKeyBreach model s set entities found
