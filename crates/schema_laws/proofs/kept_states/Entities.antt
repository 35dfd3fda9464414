-- Whether two entities are one is decided, and whether an entity stands in a list; lists of a state past those of its model are empty.
use Rattle.std.proofs.Common.{◌≡◌, ◌≢◌, ◌⊎◌, ◌==◌, inl, inr, ⊎_elim, ℕ, ◌≤◌, List, [], length, AllPairs, Contains, refl, sym, ap, subst, slice_get, unwrap_or, arith}
use Rattle.std.proofs.lemmas.Bool.Decides.{Decides-eqb, Decides-like}
use Rattle.std.proofs.lemmas.Option.{slice_get_past}
use Rattle.round_trip.specs.Words.{Entity, TypeId}
use Rattle.schema_laws.proofs.state_demand.writings.Decisions.{both_or_not, key_or_not, so_or_not}
use Rattle.schema_laws.proofs.state_demand.lists.Lists.{any_or_none}

-- two types are one, or they aren't
type_or_not : (one two : TypeId) → (one ≡ two) ⊎ (one ≢ two)
type_or_not one two = so_or_not (one.index == two.index)
    (Decides-like (one.index == two.index) (λ same i. record { index = same i }) (λ same. ap (λ (t : TypeId). t.index) same) (Decides-eqb one.index two.index))

-- entities of one type with the same values are one
entity_or_not : (one two : Entity) → (one ≡ two) ⊎ (one ≢ two)
entity_or_not one two = ⊎_elim
    (λ (same : (one.ty ≡ two.ty) × (one.values ≡ two.values)). inl (λ i. record { ty = same.0 i; values = same.1 i }))
    (λ (not : ¬ ((one.ty ≡ two.ty) × (one.values ≡ two.values))). inr (λ same. not (ap (λ (x : Entity). x.ty) same, ap (λ (x : Entity). x.values) same)))
    (both_or_not (type_or_not one.ty two.ty) (key_or_not one.values two.values))

-- an entity stands in a list, or it doesn't
pub stands_or_not : (entities : List Entity) (entity : Entity) → Contains entities entity ⊎ ¬ Contains entities entity
stands_or_not entities entity = ⊎_elim
    (λ (found : (other : Entity) × Contains entities other × (entity ≡ other)). inl (subst (Contains entities) (sym found.2) found.1))
    (λ (none : (other : Entity) → Contains entities other → entity ≢ other). inr (λ has. none entity has refl))
    (any_or_none (λ (other : Entity). entity ≡ other) (entity_or_not entity) entities)

-- items with different keys are different
pub apart_by_key : {X Y : Type 0} (key : X → Y) (xs : List X) → AllPairs (λ a b. key a ≢ key b) xs → AllPairs (λ a b. a ≢ b) xs
apart_by_key key xs apart i j d below within same = apart i j d below within (ap key same)

-- past the lists of a state nothing stands
pub past_none : {X : Type 0} (lists : List (List X)) (count i : ℕ) → length lists ≡ count → count ≤ i → unwrap_or (slice_get lists i) [] ≡ []
past_none lists count i long past = ap (λ found. unwrap_or found []) (slice_get_past lists i (omega arith))
