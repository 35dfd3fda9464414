-- What is known of types, as entities come, go and are replaced.
use Rattle.std.proofs.Common.{◌≡◌, ◌≢◌, ◌↔◌, ◌==◌, ⊎_elim, List, [], ◌∷◌, ◌++◌, map, filter, Contains, Option, None, Some, Bool, true, false, not, if◌then◌else◌, refl, sym, ap, subst, ◌∙◌}
use Rattle.std.proofs.lemmas.Bool.Decides.{Decides-eqb}
use Rattle.entity_changes.proofs.Replaced.{gone_left, put_in, put_only, same_left, same_replaced}
use Rattle.entity_changes.proofs.Pushes.{clash, push_cases, push_last, push_old}
use Rattle.round_trip.specs.Words.{TypeId, Value, EntityModel, Entity, key_of}
use Rattle.schema_laws.specs.state_demand.Selecting.{same_key}
use Rattle.schema_laws.proofs.state_demand.writings.Selecting.{Decides-key}
use Rattle.entity_changes.specs.declared.making.types.Types.{Types}
use Rattle.entity_changes.specs.declared.making.types.Types.TheVariants.{One, Several}
use Rattle.entity_changes.specs.making.Types.{AreTypes, joined}

module _ (model : EntityModel) where
  -- what is known goes by the entities of the key
  pub same_types : (xs ys : List Entity) (key : List Value) (found : Option Types)
      → ((entity : Entity) → key_of model entity ≡ key → Contains xs entity ↔ Contains ys entity) → AreTypes model xs key found → AreTypes model ys key found
  same_types xs ys key None same are = λ entity has is. are entity ((same entity is).1 has) is
  same_types xs ys key (Some (One ty)) same are = ((are.0.0, (same are.0.0 are.0.2).0 are.0.1, are.0.2), λ entity has is. are.1 entity ((same entity is).1 has) is)
  same_types xs ys key (Some Several) same (one, other, one_has, other_has, one_is, other_is, apart) =
      (one, other, (same one one_is).0 one_has, (same other other_is).0 other_has, one_is, other_is, apart)

  -- something known tells of an entity
  pub has_one : (xs : List Entity) (key : List Value) (types : Types) → AreTypes model xs key (Some types) → (entity : Entity) × Contains xs entity
      × (key_of model entity ≡ key)
  has_one xs key (One ty) are = are.0
  has_one xs key Several (one, other, one_has, other_has, one_is, other_is, apart) = (one, one_has, one_is)

  module _ (xs : List Entity) (entity : Entity) (key : List Value) where
    -- an entity of another key makes no difference
    pub another : (found : Option Types) → key_of model entity ≢ key → AreTypes model xs key found → AreTypes model (xs ++ entity ∷ []) key found
    another found apart are = same_types xs (xs ++ entity ∷ []) key found
        (λ other is. (
          push_old xs entity other,
          λ has. ⊎_elim (λ (old : Contains xs other). old) (λ (last : other ≡ entity). absurd (apart (ap (key_of model) (sym last) ∙ is)))
              (push_cases xs entity other has),
        )) are

    -- one of the key makes its type known
    pub one_more : (found : Option Types) → key_of model entity ≡ key → AreTypes model xs key found
        → AreTypes model (xs ++ entity ∷ []) key (Some (joined found entity.ty))
    one_more None is are = (
      (entity, push_last xs entity, is),
      (λ other has its. ⊎_elim (λ (old : Contains xs other). absurd (are other old its)) (λ (last : other ≡ entity). ap (λ (e : Entity). e.ty) last)
          (push_cases xs entity other has)),
    )
    one_more (Some (One old)) is ((first, first_has, first_is), all) = by (old.index == entity.ty.index) refl
      where
        by : (b : Bool) → (old.index == entity.ty.index) ≡ b → AreTypes model (xs ++ entity ∷ []) key (Some (if b then One entity.ty else Several))
        by true told =
            let same : old ≡ entity.ty = λ i. record { index = (Decides-eqb old.index entity.ty.index).0 told i } in (
              (entity, push_last xs entity, is),
              (λ other has its. ⊎_elim (λ (before : Contains xs other). all other before its ∙ same) (λ (last : other ≡ entity). ap (λ (e : Entity). e.ty) last)
                  (push_cases xs entity other has)),
            )
        by false told = (
          first,
          entity,
          push_old xs entity first first_has,
          push_last xs entity,
          first_is,
          is,
          λ same. clash (old.index == entity.ty.index) ((Decides-eqb old.index entity.ty.index).1
              (ap (λ (t : TypeId). t.index) (sym (all first first_has first_is) ∙ same))) told,
        )
    one_more (Some Several) is (one, other, one_has, other_has, one_is, other_is, apart) =
        (one, other, push_old xs entity one one_has, push_old xs entity other other_has, one_is, other_is, apart)

  module _ (xs : List Entity) (key gone : List Value) where
    -- where the entities of a key go, nothing is known of it
    pub none_left : key ≡ gone → AreTypes model (filter (λ old. not (same_key (key_of model old) gone)) xs) key None
    none_left same entity has is = gone_left model xs gone entity (is ∙ same) has

    -- and of others what was known
    pub others_left : (found : Option Types) → key ≢ gone → AreTypes model xs key found
        → AreTypes model (filter (λ old. not (same_key (key_of model old) gone)) xs) key found
    others_left found apart are = same_types xs (filter (λ old. not (same_key (key_of model old) gone)) xs) key found
        (λ entity is. same_left model xs gone entity (λ same. apart (sym is ∙ same))) are

  module _ (xs : List Entity) (entity : Entity) (key : List Value) where
    -- where an entity takes the place of those of its key and type, what is known stays
    pub replaced_types : (found : Option Types) → (key ≡ key_of model entity → found ≡ Some (One entity.ty))
        → AreTypes model xs key found → AreTypes model (map (λ old. if same_key (key_of model old) (key_of model entity) then entity else old) xs) key found
    replaced_types found known are = by (same_key key (key_of model entity)) refl
      where
        by : (b : Bool) → same_key key (key_of model entity) ≡ b
            → AreTypes model (map (λ old. if same_key (key_of model old) (key_of model entity) then entity else old) xs) key found
        by true told =
            let same : key ≡ key_of model entity = (Decides-key key (key_of model entity)).0 told in
            let first = has_one xs key (One entity.ty) (subst (AreTypes model xs key) (known same) are) in
            subst (AreTypes model (map (λ old. if same_key (key_of model old) (key_of model entity) then entity else old) xs) key) (sym (known same)) (
              (entity, put_in model xs entity first.0 first.1 (first.2 ∙ same), sym same),
              (λ other has is. ap (λ (e : Entity). e.ty) (put_only model xs entity other has (is ∙ same))),
            )
        by false told = same_types xs (map (λ old. if same_key (key_of model old) (key_of model entity) then entity else old) xs) key found
            (λ other is. same_replaced model xs entity other
            (λ same. clash (same_key key (key_of model entity)) ((Decides-key key (key_of model entity)).1 (sym is ∙ same)) told)) are
