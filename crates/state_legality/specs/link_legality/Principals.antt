-- The breaches at entities that have no principal.
-- Source: CSDL version 3, ReferentialConstraint.
use Rattle.std.specs.Prelude.{◌≡◌, ◌≢◌, ℕ, List, [], ◌∷◌, All, Any, Bool, IsTrue}
use Rattle.std.specs.BTreeSet.{BTreeSet, contains}
use Rattle.std.specs.Cmp.Lexicographic.{slice_cmp}
use Rattle.emc_base.specs.Order.{value_cmp}
use Rattle.groupings.specs.least_fault.Least.{Among}
use Rattle.round_trip.specs.Words.{AssocId, TypeId, Value, Null, place_at, EntityModel, EntitySet, Assoc, Constraint, Entity, State, At, IsA, key_of, values_of, entities_in, dependent_end, HasPrincipal}
use Rattle.entity_state.specs.declared.breach_order.found.Found.{Found}
use Rattle.state_legality.specs.link_legality.Ends.{IsMarked}

-- S8: the i-th entity stands at the dependent end, none of its dependent values is null, Finds doesn't hold of them, and its breach is told
pub record IsLost (Stands : Entity → Type 0) (Finds : List Value → Type 0) (model : EntityModel) (a : AssocId) (assoc : Assoc) (constraint : Constraint) (set : EntitySet)
    (i : ℕ) (entity : Entity) (found : Found) : Type 0 where
  pub stands : Stands entity
  pub not_null : All (λ value. value ≢ Null) (values_of model entity constraint.dependent)
  pub broken : ¬ Finds (values_of model entity constraint.dependent)
  pub found_is : found ≡ record { rule = 8; spot = a.index ∷ i ∷ []; place = place_at set.name (key_of model entity) assoc.set_name }

-- the same where types are marked and it is known what principals hold
abbrev pub IsUnheld : EntityModel → List Bool → BTreeSet (List Value) → AssocId → Assoc → Constraint → EntitySet → ℕ → Entity → Found → Type 0
IsUnheld model marks held a assoc constraint set =
    IsLost (λ entity. IsMarked marks entity.ty) (λ values. IsTrue (contains (slice_cmp value_cmp) held values)) model a assoc constraint set

-- an entity of the dependent end's set has no principal
pub record IsLostAt (model : EntityModel) (state : State) (a : AssocId) (assoc : Assoc) (constraint : Constraint) (found : Found) : Type 0 where
  pub set : EntitySet
  pub is_set : At model.sets (dependent_end assoc constraint).set.index set
  pub lost : Among (IsLost (λ entity. IsA model entity.ty (dependent_end assoc constraint).ty) (HasPrincipal model state assoc constraint) model a assoc constraint set)
      (entities_in state (dependent_end assoc constraint).set) found

-- one of these has in its principal list what the entity has in the dependent one
abbrev pub FindsAmong : EntityModel → List Entity → Constraint → Entity → Type 0
FindsAmong model principals constraint entity = Any (λ principal. values_of model principal constraint.principal ≡ values_of model entity constraint.dependent) principals

-- where the entity is of this type or one under it, and none of its dependent values is null, it finds one of these
pub record KeepsConstraint (model : EntityModel) (principals : List Entity) (u : TypeId) (constraint : Constraint) (entity : Entity) : Type 0 where
  pub kept : IsA model entity.ty u → All (λ value. value ≢ Null) (values_of model entity constraint.dependent) → FindsAmong model principals constraint entity
