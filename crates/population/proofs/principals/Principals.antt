-- Each entity of a supported state has its principals.
use Rattle.std.proofs.Common.{◌≡◌, ◌≢◌, ⊎_elim, ℕ, List, map, All, Any, Contains, Some, Bool, true, false, if◌then◌else◌, refl, sym, ap, ◌∙◌}
use Rattle.std.proofs.lemmas.Bool.{cond-true}
use Rattle.std.proofs.lemmas.List.{length-map}
use Rattle.std.proofs.lemmas.List.Elements.{All-contains}
use Rattle.emc_base.proofs.FoundItems.{member_of, some_member}
use Rattle.emc_base.proofs.Lists.{all_from_members}
use Rattle.emc_base.proofs.Mapped.{contains_map}
use Rattle.round_trip.specs.Words.{SetId, PropId, TypeId, Value, Null, EntityModel, EntitySet, Prop, Assoc, Constraint, Entity, At, IsA, dependent_end, principal_end, key_of, key_props, props_of, value_beside, value_of, values_of}
use Rattle.round_trip.specs.soundness.Lookups.{IsElement, set_key}
use Rattle.round_trip.specs.soundness.models.Constraints.{HasMatchedLists}
use Rattle.round_trip.specs.soundness.models.Inheritance.{IsKeyProp}
use Rattle.round_trip.specs.soundness.models.Models.{IsSoundModel}
use Rattle.round_trip.specs.soundness.mappings.Joined.{IsDependent}
use Rattle.schema_laws.specs.short_values.Fresh.{added_value, fresh, fresh_at}
use Rattle.schema_laws.specs.short_values.Places.{is_among, is_dependent}
use Rattle.schema_laws.proofs.sound_types.Dependent.{dependent_kind}
use Rattle.schema_laws.proofs.sound_types.Inherited.{inherits_prop, key_prop}
use Rattle.schema_laws.proofs.short_values.Places.{Decides-among, Decides-dependent, fresh_is}
use Rattle.schema_laws.proofs.state_demand.lists.Places.{map_agree}
use Rattle.schema_laws.proofs.state_demand.owners.Owners.{beside_map}
use Rattle.schema_laws.proofs.state_demand.writings.Decisions.{so_or_not}
use Rattle.population.specs.Given.{AreGiven, AreKeys, HasNumbers, IsThere}
use Rattle.population.specs.Numbered.{asked_type, numbered, numbered_key}
use Rattle.population.specs.Plain.{first_concrete, first_value, needed_value, plain}
use Rattle.population.specs.Principals.{PlacedKey, principal_by, principal_key}
use Rattle.population.specs.Supported.{Placed, stands_in}
use Rattle.population.proofs.principals.Asked.{is_principal}
use Rattle.population.proofs.supporting.Entities.{Stands, has_set_key, number_stands, of_given, of_key, of_number, set_there, stands_cases}
use Rattle.population.proofs.principals.Matched.{IsMatched, as_many, fresh_matched, part_matched, principal_values, sound_constraint}
use Rattle.population.proofs.plain.Numbered.{asked_concrete, asked_under, numbered_has, set_key_is}
use Rattle.population.proofs.plain.Plain.{keys_same, plain_other, plain_part}

module _ (model : EntityModel) (sound : IsSoundModel model) where
  -- the dependent property of a constraint is one
  pub is_dependent_by : (assoc : Assoc) (constraint : Constraint) → Contains model.assocs assoc → assoc.constraint ≡ Some constraint → (d : PropId) → Contains constraint.dependent d
      → IsDependent model d
  is_dependent_by assoc constraint is_assoc constrained d has = record { assoc = assoc; constraint = constraint; is_assoc = is_assoc; constrained = constrained; among = has }

  -- the key of a principal's set is that of the principal end's type
  pub principal_key_is : (assoc : Assoc) (constraint : Constraint) → Contains model.assocs assoc → assoc.constraint ≡ Some constraint
      → set_key model (principal_end assoc constraint).set ≡ key_props model (principal_end assoc constraint).ty
  principal_key_is assoc constraint is_assoc constrained =
      let element : IsElement model (principal_end assoc constraint).set (principal_end assoc constraint).ty = (sound_constraint model sound assoc constraint is_assoc constrained).lists.element in
      set_key_is model sound (principal_end assoc constraint).set element.0 element.1 ∙ ap (key_props model) element.2

  module _ (outer number : ℕ) where
    -- a dependent property of a plain entity that is no part of its key, and isn't null, has the value of the number
    pub plain_dependent : (t : TypeId) (key : List Value) (d : PropId) → IsDependent model d → Contains (props_of model (first_concrete model t)) d
        → ¬ Contains (key_props model (first_concrete model t)) d → value_of model (plain model outer number t key) d ≢ Null
        → value_of model (plain model outer number t key) d ≡ fresh_at model outer d (added_value number)
    plain_dependent t key d dependent among no_part there =
        let declared = dependent_kind model sound d dependent in
        let is = plain_other model sound outer number t key d declared.0 declared.1 among no_part in
        is ∙ by declared.0 declared.1 declared.0.nullable refl (λ null. there (is ∙ null))
      where
        by : (declared : Prop) → At model.props d.index declared → (nullable : Bool) → declared.nullable ≡ nullable → needed_value model outer number d declared ≢ Null
            → needed_value model outer number d declared ≡ fresh_at model outer d (added_value number)
        by declared here true may not_null =
            absurd (not_null (cond-true declared.nullable Null
            (if is_dependent model d then fresh declared.kind outer (added_value number) else first_value declared.kind) may))
        by declared here false may not_null =
            ap (λ b. if b then Null else (if is_dependent model d then fresh declared.kind outer (added_value number) else first_value declared.kind)) may
            ∙ cond-true (is_dependent model d) (fresh declared.kind outer (added_value number)) (first_value declared.kind) ((Decides-dependent model d).1 dependent)
            ∙ sym (fresh_is model d declared here outer (added_value number))

    -- where all dependent values are of one number, the principal's key is that of the number
    pub numbered_principal : (assoc : Assoc) (constraint : Constraint) → Contains model.assocs assoc → assoc.constraint ≡ Some constraint → (entity : Entity)
        → ((d : PropId) → Contains constraint.dependent d → value_of model entity d ≡ fresh_at model outer d (added_value number))
        → principal_key model assoc constraint (values_of model entity constraint.dependent) ≡ numbered_key model outer (principal_end assoc constraint).set number
    numbered_principal assoc constraint is_assoc constrained entity each =
        let key : List PropId = key_props model (principal_end assoc constraint).ty in
        map_agree (λ p. value_beside p constraint.principal (values_of model entity constraint.dependent)) (λ p. fresh_at model outer p (added_value number)) key
        (λ p part.
        let of : IsMatched model constraint.principal constraint.dependent p = part_matched model sound assoc constraint is_assoc constrained p part in
        let is_key : IsKeyProp model p = key_prop model sound p (principal_end assoc constraint).ty part in
        let other = dependent_kind model sound of.other (is_dependent_by assoc constraint is_assoc constrained of.other of.among) in
        of.beside (value_of model entity) ∙ each of.other of.among
        ∙ sym (fresh_matched model p of.other of.kinds is_key.declared other.0 is_key.is_declared other.1 outer (added_value number)))
        ∙ ap (map (λ p. fresh_at model outer p (added_value number))) (sym (principal_key_is assoc constraint is_assoc constrained))

module _ (model : EntityModel) (outer : ℕ) (has : HasNumbers model outer) where
  -- the principals of an entity of a number are those of the number
  module _ (u : SetId) (set : EntitySet) (here : At model.sets u.index set) (number : ℕ) where
    abbrev numbered_one : Entity
    numbered_one = numbered model outer u set number

    pub numbered_value : (d : PropId) → IsDependent model d → Contains (props_of model numbered_one.ty) d → value_of model numbered_one d ≢ Null
        → value_of model numbered_one d ≡ fresh_at model outer d (added_value number)
    numbered_value d dependent among there =
        let t : TypeId = asked_type model u set number in
        let parts : List PropId = key_props model (first_concrete model t) in
        let same_parts : parts ≡ set_key model u = keys_same model has.sound u t (asked_concrete model has.sound u set here number) (asked_under model has.sound u set here number) in
        let value : PropId → Value = λ p. fresh_at model outer p (added_value number) in
        ⊎_elim
        (λ (part : Contains parts d).
        plain_part model has.sound outer number t (numbered_key model outer u number) d part
        ∙ ap (λ props. value_beside d parts (map value props)) (sym same_parts)
        ∙ beside_map value parts d part)
        (λ (no_part : ¬ Contains parts d). plain_dependent model has.sound outer number t (numbered_key model outer u number) d dependent among no_part there)
        (so_or_not (is_among d parts) (Decides-among parts d))

  module _ (given : List Placed) (keys : List PlacedKey) (are_given : AreGiven model outer given) (are_keys : AreKeys model outer given keys) where
    module _ (assoc : Assoc) (constraint : Constraint) (is_assoc : Contains model.assocs assoc) (constrained : assoc.constraint ≡ Some constraint) where
      abbrev to_set : SetId
      to_set = (principal_end assoc constraint).set

      abbrev lists : HasMatchedLists model assoc constraint
      lists = (sound_constraint model has.sound assoc constraint is_assoc constrained).lists

      -- an entity with the principal's key has the principal values
      found : (entity : Entity) → IsThere model outer given keys (principal_by model assoc constraint entity)
          → Any (λ other. values_of model other constraint.principal ≡ values_of model entity constraint.dependent) (stands_in model outer given keys to_set)
      found entity any =
          let Keyed : Entity → Type 0 = λ other. key_of model other ≡ principal_key model assoc constraint (values_of model entity constraint.dependent) in
          let one = member_of Keyed (stands_in model outer given keys to_set) any in
          some_member (λ other. values_of model other constraint.principal ≡ values_of model entity constraint.dependent) (stands_in model outer given keys to_set) one.0 one.1
          (principal_values model has.sound assoc constraint is_assoc constrained one.0
          (has_set_key model outer has given keys are_given are_keys to_set one.0 one.1 ∙ principal_key_is model has.sound assoc constraint is_assoc constrained)
          (values_of model entity constraint.dependent)
          (length-map constraint.dependent (value_of model entity) ∙ as_many model has.sound assoc constraint is_assoc constrained)
          one.2)

      module _ (u : SetId) (set : EntitySet) (here : At model.sets u.index set) (at_end : (dependent_end assoc constraint).set ≡ u) where
        -- each principal that is asked for is there
        asked_there : (entity : Entity) → Stands model outer given keys u set here entity → IsA model entity.ty (dependent_end assoc constraint).ty
            → All (λ value. value ≢ Null) (values_of model entity constraint.dependent) → IsThere model outer given keys (principal_by model assoc constraint entity)
        asked_there _ (of_number number below) covers there =
            let entity : Entity = numbered model outer u set number in
            let element : IsElement model to_set (principal_end assoc constraint).ty = lists.element in
            let each : (d : PropId) → Contains constraint.dependent d → value_of model entity d ≡ fresh_at model outer d (added_value number) = λ d among.
            numbered_value u set here number d (is_dependent_by model has.sound assoc constraint is_assoc constrained d among)
            (inherits_prop model has.sound d entity.ty (dependent_end assoc constraint).ty covers
            (All-contains (Contains (props_of model (dependent_end assoc constraint).ty)) constraint.dependent d lists.dependent among))
            (All-contains (λ (v : Value). v ≢ Null) (values_of model entity constraint.dependent) (value_of model entity d) there (contains_map (value_of model entity) constraint.dependent d among)) in
            some_member (λ other. key_of model other ≡ principal_key model assoc constraint (values_of model entity constraint.dependent)) (stands_in model outer given keys to_set)
            (numbered model outer to_set element.0 number) (number_stands model outer given keys to_set element.0 element.1 number below)
            (numbered_has model outer has to_set element.0 element.1 number below
            ∙ sym (numbered_principal model has.sound outer number assoc constraint is_assoc constrained entity each))
        asked_there entity (of_given _ one) covers there =
            are_keys.of_given u entity one (principal_by model assoc constraint entity)
            (is_principal model has.sound u entity assoc constraint is_assoc constrained (at_end, covers, there))
        asked_there _ (of_key key one) covers there =
            let entity : Entity = plain model outer 0 set.element key in
            are_keys.of_keys u set here key one (principal_by model assoc constraint entity)
            (is_principal model has.sound u entity assoc constraint is_assoc constrained (at_end, covers, there))

      -- S8, by the entities that stand
      abbrev Has : Entity → Type 0
      Has entity = IsA model entity.ty (dependent_end assoc constraint).ty → All (λ value. value ≢ Null) (values_of model entity constraint.dependent)
          → Any (λ other. values_of model other constraint.principal ≡ values_of model entity constraint.dependent) (stands_in model outer given keys to_set)

      pub have_principals : All Has (stands_in model outer given keys (dependent_end assoc constraint).set)
      have_principals =
          let u : SetId = (dependent_end assoc constraint).set in
          all_from_members Has (stands_in model outer given keys u) (λ entity stands covers there.
          let in_set = set_there model outer given keys u entity stands in
          found entity (asked_there u in_set.0 in_set.1 refl entity (stands_cases model outer given keys u in_set.0 in_set.1 entity stands) covers there))
