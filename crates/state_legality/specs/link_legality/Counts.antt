-- How many partners entities have, and the breaches at those that have too few or too many.
-- Source: CSDL version 3, Multiplicity.
use Rattle.std.specs.Prelude.{◌≡◌, ◌↔◌, ◌&&◌, ℕ, ◌<◌, ◌≤◌, List, [], ◌∷◌, Bool, true, not, IsTrue, Option, Some, None}
use Rattle.std.specs.BTreeSet.{contains}
use Rattle.std.specs.Cmp.Lexicographic.{slice_cmp}
use Rattle.emc_base.specs.Order.{value_cmp}
use Rattle.groupings.specs.least_fault.Least.{Among}
use Rattle.round_trip.specs.Words.{AssocId, Value, place_at, EntityModel, Assoc, Mult, Entity, Link, At, IsA, HasCount, key_of}
use Rattle.edm_types.specs.declared.model.Mult.TheVariants.{One, ZeroOrOne, Many}
use Rattle.entity_state.specs.declared.breach_order.found.Found.{Found}
use Rattle.state_legality.specs.declared.link_legality.counts.Partners.{Partners}
use Rattle.state_legality.specs.declared.link_legality.side.Side.{Side}
use Rattle.state_legality.specs.link_legality.Sides.{end_at, key_at, partners_at, side_number}
use Rattle.state_legality.specs.link_legality.Ends.{HoldsJust, IsMarked}

-- P holds of items at two places
pub record IsTwice {X : Type 0} (P : X → Type 0) (items : List X) : Type 0 where
  pub j : ℕ
  pub k : ℕ
  pub one : X
  pub other : X
  pub before : j < k
  pub first : At items j one
  pub second : At items k other
  pub holds : P one
  pub again : P other

-- the first set has the keys that some link has at the side, the second those that two links have
pub record ArePartners (side : Side) (links : List Link) (partners : Partners) : Type 0 where
  pub some : HoldsJust (λ link key. key_at link side ≡ key) links partners.some
  pub several : (key : List Value) → IsTrue (contains (slice_cmp value_cmp) partners.several key) ↔ IsTwice (λ link. key_at link side ≡ key) links

-- whether the multiplicity allows it that a key has some partner, or several
abbrev pub allows : Mult → Bool → Bool → Bool
allows One some several = some && not several
allows ZeroOrOne some several = not several
allows Many some several = true

-- whether it allows as many partners as a key has
abbrev pub fits : Mult → Partners → List Value → Bool
fits mult partners key = allows mult (contains (slice_cmp value_cmp) partners.some key) (contains (slice_cmp value_cmp) partners.several key)

-- S7: the i-th entity stands at the side, Fits doesn't hold of its key, and its breach is told
pub record IsMiscounted (Stands : Entity → Type 0) (Fits : List Value → Type 0) (model : EntityModel) (a : AssocId) (assoc : Assoc) (side : Side)
    (i : ℕ) (entity : Entity) (found : Found) : Type 0 where
  pub stands : Stands entity
  pub broken : ¬ Fits (key_of model entity)
  pub found_is : found ≡ record {
    rule = 7;
    spot = a.index ∷ side_number side ∷ i ∷ [];
    place = place_at assoc.set_name (key_of model entity) (end_at assoc side).role;
  }

-- the same where types are marked and it is known which keys have partners
abbrev pub IsMisfit : EntityModel → List Bool → Partners → AssocId → Assoc → Side → ℕ → Entity → Found → Type 0
IsMisfit model marks partners a assoc side =
    IsMiscounted (λ entity. IsMarked marks entity.ty) (λ key. IsTrue (fits (partners_at assoc side) partners key)) model a assoc side

-- one of the entities is of the end's type or one under it, and has too few partners or too many among the links
abbrev pub MiscountedAmong : EntityModel → List Entity → List Link → AssocId → Assoc → Side → Found → Type 0
MiscountedAmong model entities links a assoc side =
    Among (IsMiscounted (λ entity. IsA model entity.ty (end_at assoc side).ty) (λ key. HasCount (partners_at assoc side) (λ link. key_at link side ≡ key) links)
    model a assoc side) entities

-- where the entity is of the end's type or one under it, it has as many partners as the other end's multiplicity allows
pub record KeepsCount (model : EntityModel) (links : List Link) (assoc : Assoc) (side : Side) (entity : Entity) : Type 0 where
  pub kept : IsA model entity.ty (end_at assoc side).ty → HasCount (partners_at assoc side) (λ link. key_at link side ≡ key_of model entity) links

-- the first place from here on whose item P holds of, or that there is none
abbrev pub IsNext : {X : Type 0} → (X → Type 0) → List X → ℕ → Option ℕ → Type 0
IsNext {X} P items from None = (i : ℕ) (item : X) → At items i item → from ≤ i → ¬ P item
IsNext {X} P items from (Some next) = (item : X) × At items next item × P item × (from ≤ next)
    × ((i : ℕ) (other : X) → At items i other → from ≤ i → i < next → ¬ P other)
