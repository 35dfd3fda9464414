-- What is found by one word is found by an equal one.
use Rattle.std.proofs.Common.{◌≡◌, ◌↔◌, ℕ, List, Bool, IsTrue, Option, All, Any, get_or, subst}
use Rattle.std.specs.BTreeSet.{BTreeSet, contains}
use Rattle.std.specs.Cmp.Lexicographic.{slice_cmp}
use Rattle.emc_base.specs.Order.{value_cmp}
use Rattle.emc_base.proofs.Lists.{at_once}
use Rattle.groupings.specs.least_fault.Least.{Among, IsLeast}
use Rattle.groupings.proofs.least_fault.Leasts.{least_same}
use Rattle.round_trip.specs.Words.{AssocId, TypeId, Value, EntityModel, EntitySet, Assoc, Constraint, Entity, Link, State, At, IsA, HasPrincipal, key_of, values_of, entities_in, dependent_end, principal_end}
use Rattle.entity_state.specs.breach_order.Founds.{found_cmp}
use Rattle.entity_state.specs.declared.breach_order.found.Found.{Found}
use Rattle.state_legality.specs.declared.link_legality.side.Side.{Side}
use Rattle.state_legality.specs.link_legality.Sides.{key_at}
use Rattle.state_legality.specs.link_legality.Ends.{HoldsJust, IsLoose, IsMarked, MarksUnder, StandsAmong}
use Rattle.state_legality.specs.link_legality.Counts.{IsMiscounted}
use Rattle.state_legality.specs.link_legality.Principals.{IsLost, IsLostAt}

module _ {X : Type 0} where
  pub any_as : (P Q : X → Type 0) → ((x : X) → P x → Q x) → (xs : List X) → Any P xs → Any Q xs
  any_as P Q to xs some = (some.0, some.1, some.2, some.3, to some.1 some.4)

  pub all_as : (P Q : X → Type 0) → ((x : X) → P x → Q x) → (xs : List X) → All P xs → All Q xs
  all_as P Q to xs all = λ i d within. to (get_or xs i d) (all i d within)

  among_as : (P Q : ℕ → X → Found → Type 0) → ((i : ℕ) (x : X) (found : Found) → P i x found → Q i x found) → (xs : List X) (found : Found) → Among P xs found → Among Q xs found
  among_as P Q to xs found some = record { i = some.i; item = some.item; here = some.here; holds = to some.i some.item found some.holds }

  least_as : (P Q : ℕ → X → Found → Type 0) → ((i : ℕ) (x : X) (found : Found) → P i x found → Q i x found) → ((i : ℕ) (x : X) (found : Found) → Q i x found → P i x found)
      → (xs : List X) (found : Option Found) → IsLeast found_cmp (Among P xs) found → IsLeast found_cmp (Among Q xs) found
  least_as P Q to back xs found = least_same found_cmp (Among P xs) (Among Q xs) found (among_as P Q to xs) (among_as Q P back xs)

module _ (a : AssocId) (assoc : Assoc) (side : Side) where
  loose : (F G : List Value → Type 0) → ((key : List Value) → G key → F key) → (i : ℕ) (link : Link) (found : Found) → IsLoose F a assoc side i link found → IsLoose G a assoc side i link found
  loose F G to i link found is = record { broken = λ stands. is.broken (to (key_at link side) stands); found_is = is.found_is }

  pub loose_as : (F G : List Value → Type 0) → ((key : List Value) → F key ↔ G key) → (links : List Link) (found : Option Found)
      → IsLeast found_cmp (Among (IsLoose F a assoc side) links) found → IsLeast found_cmp (Among (IsLoose G a assoc side) links) found
  loose_as F G same = least_as (IsLoose F a assoc side) (IsLoose G a assoc side) (loose F G (λ key. (same key).1)) (loose G F (λ key. (same key).0))

  module _ (model : EntityModel) where
    miscounted : (S T : Entity → Type 0) (F G : List Value → Type 0) → ((entity : Entity) → S entity → T entity) → ((key : List Value) → G key → F key)
        → (i : ℕ) (entity : Entity) (found : Found) → IsMiscounted S F model a assoc side i entity found → IsMiscounted T G model a assoc side i entity found
    miscounted S T F G stands to i entity found is =
        record { stands = stands entity is.stands; broken = λ fits. is.broken (to (key_of model entity) fits); found_is = is.found_is }

    pub miscounted_as : (S T : Entity → Type 0) (F G : List Value → Type 0) → ((entity : Entity) → S entity ↔ T entity) → ((key : List Value) → F key ↔ G key)
        → (entities : List Entity) (found : Option Found)
        → IsLeast found_cmp (Among (IsMiscounted S F model a assoc side) entities) found → IsLeast found_cmp (Among (IsMiscounted T G model a assoc side) entities) found
    miscounted_as S T F G alike same = least_as (IsMiscounted S F model a assoc side) (IsMiscounted T G model a assoc side)
        (miscounted S T F G (λ entity. (alike entity).0) (λ key. (same key).1)) (miscounted T S G F (λ entity. (alike entity).1) (λ key. (same key).0))

module _ (model : EntityModel) (a : AssocId) (assoc : Assoc) (constraint : Constraint) (set : EntitySet) where
  lost : (S T : Entity → Type 0) (F G : List Value → Type 0) → ((entity : Entity) → S entity → T entity) → ((values : List Value) → G values → F values)
      → (i : ℕ) (entity : Entity) (found : Found) → IsLost S F model a assoc constraint set i entity found → IsLost T G model a assoc constraint set i entity found
  lost S T F G stands to i entity found is = record {
    stands = stands entity is.stands;
    not_null = is.not_null;
    broken = λ finds. is.broken (to (values_of model entity constraint.dependent) finds);
    found_is = is.found_is;
  }

  pub lost_as : (S T : Entity → Type 0) (F G : List Value → Type 0) → ((entity : Entity) → S entity ↔ T entity) → ((values : List Value) → F values ↔ G values)
      → (entities : List Entity) (found : Option Found)
      → IsLeast found_cmp (Among (IsLost S F model a assoc constraint set) entities) found → IsLeast found_cmp (Among (IsLost T G model a assoc constraint set) entities) found
  lost_as S T F G alike same = least_as (IsLost S F model a assoc constraint set) (IsLost T G model a assoc constraint set)
      (lost S T F G (λ entity. (alike entity).0) (λ values. (same values).1)) (lost T S G F (λ entity. (alike entity).1) (λ values. (same values).0))

-- the keys that stand among entities, where their types are marked
pub stands_just : (model : EntityModel) (u : TypeId) (under : List Bool) (entities : List Entity) (held : BTreeSet (List Value)) → MarksUnder model u under
    → HoldsJust (λ entity key. IsMarked under entity.ty × (key_of model entity ≡ key)) entities held
    → (key : List Value) → IsTrue (contains (slice_cmp value_cmp) held key) ↔ StandsAmong model u entities key
stands_just model u under entities held marked holds key = (
  λ has. any_as Marked Stands (λ entity both. ((marked entity.ty).0 both.0, both.1)) entities ((holds key).0 has),
  λ some. (holds key).1 (any_as Stands Marked (λ entity both. ((marked entity.ty).1 both.0, both.1)) entities some),
)
  where
    Marked : Entity → Type 0
    Marked entity = IsMarked under entity.ty × (key_of model entity ≡ key)

    Stands : Entity → Type 0
    Stands entity = IsA model entity.ty u × (key_of model entity ≡ key)

-- the entities without a principal, where types are marked and principals known
module _ (model : EntityModel) (state : State) (a : AssocId) (assoc : Assoc) (constraint : Constraint) (set : EntitySet) (under : List Bool) (held : BTreeSet (List Value)) where
  abbrev pub Marks : Entity → Type 0
  Marks entity = IsMarked under entity.ty

  abbrev pub Held : List Value → Type 0
  Held values = IsTrue (contains (slice_cmp value_cmp) held values)

  abbrev Stands : Entity → Type 0
  Stands entity = IsA model entity.ty (dependent_end assoc constraint).ty

  pub lost_found : (found : Option Found) → At model.sets (dependent_end assoc constraint).set.index set → MarksUnder model (dependent_end assoc constraint).ty under
      → HoldsJust (λ entity values. values_of model entity constraint.principal ≡ values) (entities_in state (principal_end assoc constraint).set) held
      → IsLeast found_cmp (Among (IsLost Marks Held model a assoc constraint set) (entities_in state (dependent_end assoc constraint).set)) found
      → IsLeast found_cmp (IsLostAt model state a assoc constraint) found
  lost_found found here marked holds least =
      let entities = entities_in state (dependent_end assoc constraint).set in
      let Wrong : EntitySet → Found → Type 0 = λ one. Among (IsLost Stands (HasPrincipal model state assoc constraint) model a assoc constraint one) entities in
      least_same found_cmp (Wrong set) (IsLostAt model state a assoc constraint) found
      (λ other some. record { set = set; is_set = here; lost = some })
      (λ other some.
      let same : some.set ≡ set = at_once model.sets (dependent_end assoc constraint).set.index some.set set some.is_set here in
      let P : EntitySet → Type 0 = λ one. Wrong one other in
      subst P same some.lost)
      (lost_as model a assoc constraint set Marks Stands Held (HasPrincipal model state assoc constraint) (λ entity. marked entity.ty) holds entities found least)
