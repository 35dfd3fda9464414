-- Which entities stand at an end, and the breaches at links that have none there.
-- Source: CSDL version 3, AssociationSet and End.
use Rattle.std.specs.Prelude.{◌≡◌, ◌↔◌, ℕ, List, [], ◌∷◌, ◌++◌, Any, Bool, true, IsTrue}
use Rattle.std.specs.BTreeSet.{BTreeSet, contains}
use Rattle.std.specs.Cmp.Lexicographic.{slice_cmp}
use Rattle.emc_base.specs.Order.{value_cmp}
use Rattle.round_trip.specs.Words.{AssocId, TypeId, Value, place_at, EntityModel, Assoc, Entity, Link, At, IsA, key_of}
use Rattle.entity_state.specs.declared.breach_order.found.Found.{Found}
use Rattle.state_legality.specs.declared.link_legality.side.Side.{Side}
use Rattle.state_legality.specs.link_legality.Sides.{end_at, key_at, side_number}

-- the type is marked
abbrev pub IsMarked : List Bool → TypeId → Type 0
IsMarked marks t = At marks t.index true

-- just the type and those derived from it are marked
abbrev pub MarksUnder : EntityModel → TypeId → List Bool → Type 0
MarksUnder model u marks = (t : TypeId) → IsMarked marks t ↔ IsA model t u

-- the set has just the lists of values that some item has
abbrev pub HoldsJust : {X : Type 0} → (X → List Value → Type 0) → List X → BTreeSet (List Value) → Type 0
HoldsJust Has items held = (values : List Value) → IsTrue (contains (slice_cmp value_cmp) held values) ↔ Any (λ item. Has item values) items

-- one of the entities has this key, and the type or one under it
abbrev pub StandsAmong : EntityModel → TypeId → List Entity → List Value → Type 0
StandsAmong model u entities key = Any (λ entity. IsA model entity.ty u × (key_of model entity ≡ key)) entities

-- S5: the i-th link has a key at this side of which Stands doesn't hold, and its breach is told
pub record IsLoose (Stands : List Value → Type 0) (a : AssocId) (assoc : Assoc) (side : Side) (i : ℕ) (link : Link) (found : Found) : Type 0 where
  pub broken : ¬ Stands (key_at link side)
  pub found_is : found ≡ record {
    rule = 5;
    spot = a.index ∷ i ∷ side_number side ∷ [];
    place = place_at assoc.set_name (link.first ++ link.second) (end_at assoc side).role;
  }
