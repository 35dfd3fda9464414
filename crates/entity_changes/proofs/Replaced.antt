-- Entities that go, and those that take the place of others.
use Rattle.std.proofs.Common.{◌≡◌, ◌≢◌, ◌↔◌, ◌⊎◌, ⊎_elim, inl, inr, List, map, filter, Contains, Bool, true, false, not, if◌then◌else◌, refl, sym, ap, subst, ◌∙◌}
use Rattle.emc_base.proofs.Mapped.{contains_filter, contains_map}
use Rattle.emc_base.proofs.Numbered.{filter_contains, map_contains}
use Rattle.round_trip.specs.Words.{Value, EntityModel, Entity, key_of}
use Rattle.schema_laws.specs.state_demand.Selecting.{same_key}
use Rattle.schema_laws.proofs.state_demand.writings.Selecting.{Decides-key}
use Rattle.entity_changes.proofs.Pushes.{clash, false_from}

module _ (model : EntityModel) (xs : List Entity) where
  module _ (gone : List Value) where
    test : Entity → Bool
    test old = not (same_key (key_of model old) gone)

    -- where the entities of a key go, none is left
    pub gone_left : (entity : Entity) → key_of model entity ≡ gone → Contains (filter (λ old. not (same_key (key_of model old) gone)) xs) entity → ⊥
    unfolding test
    gone_left entity is has = clash (test entity) (filter_contains test xs entity has).1 (ap not ((Decides-key (key_of model entity) gone).1 is))

    -- and all others are
    pub same_left : (entity : Entity) → key_of model entity ≢ gone → Contains xs entity ↔ Contains (filter (λ old. not (same_key (key_of model old) gone)) xs) entity
    unfolding test
    same_left entity apart = (
      (λ has. contains_filter test xs entity has (ap not (false_from (same_key (key_of model entity) gone)
          (λ told. apart ((Decides-key (key_of model entity) gone).0 told))))),
      (λ has. (filter_contains test xs entity has).0),
    )

  module _ (entity : Entity) where
    put : Entity → Entity
    put old = if same_key (key_of model old) (key_of model entity) then entity else old

    put_there : (old : Entity) → key_of model old ≡ key_of model entity → put old ≡ entity
    unfolding put
    put_there old same = ap (λ b. if b then entity else old) ((Decides-key (key_of model old) (key_of model entity)).1 same)

    put_not : (old : Entity) → key_of model old ≢ key_of model entity → put old ≡ old
    unfolding put
    put_not old apart = ap (λ b. if b then entity else old)
        (false_from (same_key (key_of model old) (key_of model entity)) (λ told. apart ((Decides-key (key_of model old) (key_of model entity)).0 told)))

    put_cases : (old : Entity) → (put old ≡ entity) ⊎ ((put old ≡ old) × (key_of model old ≢ key_of model entity))
    put_cases old = by (same_key (key_of model old) (key_of model entity)) refl
      where
        by : (b : Bool) → same_key (key_of model old) (key_of model entity) ≡ b → (put old ≡ entity) ⊎ ((put old ≡ old) × (key_of model old ≢ key_of model entity))
        by true told = inl (put_there old ((Decides-key (key_of model old) (key_of model entity)).0 told))
        by false told =
            let apart : key_of model old ≢ key_of model entity = λ same. clash (same_key (key_of model old) (key_of model entity))
            ((Decides-key (key_of model old) (key_of model entity)).1 same) told in
            inr (put_not old apart, apart)

    -- an entity stands where one of its key stood
    pub put_in : (old : Entity) → Contains xs old → key_of model old ≡ key_of model entity
        → Contains (map (λ old. if same_key (key_of model old) (key_of model entity) then entity else old) xs) entity
    unfolding put
    put_in old has same = subst (Contains (map put xs)) (put_there old same) (contains_map put xs old has)

    -- and no other of its key is left
    pub put_only : (other : Entity) → Contains (map (λ old. if same_key (key_of model old) (key_of model entity) then entity else old) xs) other
        → key_of model other ≡ key_of model entity → other ≡ entity
    unfolding put
    put_only other has same =
        let from = map_contains put xs other has in
        ⊎_elim (λ (one : put from.0 ≡ entity). sym from.2 ∙ one)
        (λ (kept : (put from.0 ≡ from.0) × (key_of model from.0 ≢ key_of model entity)). absurd (kept.1 (ap (key_of model) (sym kept.0 ∙ from.2) ∙ same)))
        (put_cases from.0)

    -- those of other keys are as they were
    pub same_replaced : (other : Entity) → key_of model other ≢ key_of model entity
        → Contains xs other ↔ Contains (map (λ old. if same_key (key_of model old) (key_of model entity) then entity else old) xs) other
    unfolding put
    same_replaced other apart = (
      (λ has. subst (Contains (map put xs)) (put_not other apart) (contains_map put xs other has)),
      (λ has.
          let from = map_contains put xs other has in
          ⊎_elim (λ (one : put from.0 ≡ entity). absurd (apart (ap (key_of model) (sym from.2 ∙ one))))
          (λ (kept : (put from.0 ≡ from.0) × (key_of model from.0 ≢ key_of model entity)). subst (Contains xs) (sym kept.0 ∙ from.2) from.1)
          (put_cases from.0)),
    )
