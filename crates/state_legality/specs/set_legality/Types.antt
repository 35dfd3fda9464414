-- Which types the entities of a set may have, and what is found at one of another type.
-- Source: CSDL version 3, EntitySet and EntityType.
use Rattle.std.specs.Prelude.{◌≡◌, ◌↔◌, ℕ, List, [], ◌∷◌, Bool, true, codes}
use Rattle.round_trip.specs.Words.{TypeId, place_at, EntityModel, EntityType, EntitySet, Entity, At, IsA, IsConcrete, key_of}
use Rattle.entity_state.specs.declared.breach_order.found.Found.{Found}

-- just the types of the model that are this one or derived from it are marked, by their places
abbrev pub MarksUnder : EntityModel → TypeId → List Bool → Type 0
MarksUnder model element marks = (t : TypeId) → At marks t.index true ↔ ((type : EntityType) × At model.types t.index type × IsA model t element)

-- the type is concrete, and marked
abbrev pub IsMarked : EntityModel → List Bool → TypeId → Type 0
IsMarked model marks t = IsConcrete model t × At marks t.index true

-- the type is concrete, and the element type or under it
abbrev pub IsFitting : EntityModel → TypeId → TypeId → Type 0
IsFitting model element t = IsConcrete model t × IsA model t element

-- the i-th entity of the s-th set has a type of which Fits doesn't hold, and its breach is told
pub record IsTypeBreach (model : EntityModel) (Fits : TypeId → Type 0) (s : ℕ) (set : EntitySet) (i : ℕ) (entity : Entity) (found : Found) : Type 0 where
  pub broken : ¬ Fits entity.ty
  pub found_is : found ≡ record { rule = 1; spot = s ∷ i ∷ []; place = place_at set.name (key_of model entity) (codes "$type") }
