-- The principals of entities whose dependent values are short have short keys; so have those of plain entities.
use Rattle.std.proofs.Common.{◌≡◌, ◌≢◌, ⊎_elim, ℕ, List, [], map, slice_get, option_map, All, Contains, Option, Some, None, refl, sym, ap, subst, ◌∙◌, arith}
use Rattle.std.specs.List.{AllZip}
use Rattle.std.specs.Option.{option_map_or}
use Rattle.std.proofs.lemmas.List.Elements.{All-contains}
use Rattle.emc_base.proofs.Lists.{all_from_members}
use Rattle.emc_base.proofs.Mapped.{all_zip-map, contains_map}
use Rattle.emc_base.proofs.Members.{contains_nil}
use Rattle.round_trip.specs.Words.{SetId, PropId, TypeId, Value, Null, EntityModel, EntitySet, Prop, Assoc, Constraint, Entity, At, IsA, dependent_end, principal_end, key_props, props_of, value_beside, value_of, values_of}
use Rattle.round_trip.specs.soundness.Kinds.{without_bound}
use Rattle.round_trip.specs.soundness.Lookups.{HasConcrete, IsUnderElement}
use Rattle.round_trip.specs.soundness.models.Constraints.{HasMatchedLists}
use Rattle.round_trip.specs.soundness.models.Inheritance.{IsKeyProp}
use Rattle.round_trip.proofs.Lookups.{prop_kind_at}
use Rattle.schema_laws.specs.short_values.Fresh.{added_value}
use Rattle.schema_laws.specs.short_values.Places.{is_among}
use Rattle.schema_laws.proofs.sound_types.Dependent.{dependent_kind}
use Rattle.schema_laws.proofs.sound_types.Inherited.{inherits_prop, key_prop}
use Rattle.schema_laws.proofs.short_values.Places.{Decides-among, fresh_is}
use Rattle.schema_laws.proofs.short_values.Short.{fresh_short, fresh_sort}
use Rattle.schema_laws.proofs.state_demand.writings.Decisions.{so_or_not}
use Rattle.population.specs.Given.{HasNumbers, HasShortParts, IsShortFor}
use Rattle.population.specs.Plain.{first_concrete, plain}
use Rattle.population.specs.Principals.{AsksFor, PlacedKey, principal_key, principals}
use Rattle.population.specs.Support.{steps}
use Rattle.population.proofs.principals.Asked.{asked_of}
use Rattle.population.proofs.principals.Matched.{IsMatched, bare_kind, part_matched, sort_alike, sound_constraint}
use Rattle.population.proofs.plain.Numbered.{asked_concrete, asked_under, number_small}
use Rattle.population.proofs.plain.Plain.{part_short, plain_part}
use Rattle.population.proofs.principals.Principals.{is_dependent_by, plain_dependent, principal_key_is}

module _ (model : EntityModel) (outer : ℕ) (has : HasNumbers model outer) where
  -- a short value of one property is one of a property of the same kind, bounds aside
  short_alike : (p q : PropId) → bare_kind model p ≡ bare_kind model q → (declared : Prop) → At model.props p.index declared → (v : Value) → IsShortFor model q v → IsShortFor model p v
  short_alike p q same declared here v short =
      let kinds : Some (without_bound declared.kind) ≡ Some (without_bound short.declared.kind) =
      sym (ap (option_map without_bound) (prop_kind_at model p declared here)) ∙ same ∙ ap (option_map without_bound) (prop_kind_at model q short.declared short.is_declared) in
      let alike : without_bound short.declared.kind ≡ without_bound declared.kind = (let both = kinds in cc) in
      record { declared = declared; is_declared = here; short = short.short; of_sort = sort_alike short.declared.kind declared.kind alike v short.of_sort }

  -- where the dependent values of an entity are short, so are the parts of its principal's key
  pub principal_short : (assoc : Assoc) (constraint : Constraint) → Contains model.assocs assoc → assoc.constraint ≡ Some constraint → (entity : Entity)
      → ((d : PropId) → Contains constraint.dependent d → IsShortFor model d (value_of model entity d))
      → HasShortParts model (principal_end assoc constraint).set (principal_key model assoc constraint (values_of model entity constraint.dependent))
  principal_short assoc constraint is_assoc constrained entity each =
      let key : List PropId = key_props model (principal_end assoc constraint).ty in
      let value : PropId → Value = λ p. value_beside p constraint.principal (values_of model entity constraint.dependent) in
      subst (λ props. AllZip (IsShortFor model) props (map value key)) (sym (principal_key_is model has.sound assoc constraint is_assoc constrained))
      (all_zip-map (Contains key) (IsShortFor model) value (λ p part.
      let of : IsMatched model constraint.principal constraint.dependent p = part_matched model has.sound assoc constraint is_assoc constrained p part in
      let is_key : IsKeyProp model p = key_prop model has.sound p (principal_end assoc constraint).ty part in
      subst (IsShortFor model p) (sym (of.beside (value_of model entity)))
      (short_alike p of.other of.kinds is_key.declared is_key.is_declared (value_of model entity of.other) (each of.other of.among)))
      key (all_from_members (Contains key) key (λ p part. part)))

  -- a dependent value of a plain entity of a short key is short, where it isn't null
  module _ (u : SetId) (t : TypeId) (concrete : HasConcrete model t) (under : IsUnderElement model u t) (key : List Value) (short : HasShortParts model u key) where
    pub plain_short : (assoc : Assoc) (constraint : Constraint) → Contains model.assocs assoc → assoc.constraint ≡ Some constraint
        → IsA model (first_concrete model t) (dependent_end assoc constraint).ty → All (λ value. value ≢ Null) (values_of model (plain model outer 0 t key) constraint.dependent)
        → (d : PropId) → Contains constraint.dependent d → IsShortFor model d (value_of model (plain model outer 0 t key) d)
    plain_short assoc constraint is_assoc constrained covers there d among =
        let entity : Entity = plain model outer 0 t key in
        let parts : List PropId = key_props model (first_concrete model t) in
        let lists : HasMatchedLists model assoc constraint = (sound_constraint model has.sound assoc constraint is_assoc constrained).lists in
        let by = is_dependent_by model has.sound assoc constraint is_assoc constrained d among in
        let of_type : Contains (props_of model (first_concrete model t)) d =
        inherits_prop model has.sound d (first_concrete model t) (dependent_end assoc constraint).ty covers
        (All-contains (Contains (props_of model (dependent_end assoc constraint).ty)) constraint.dependent d lists.dependent among) in
        let not_null : value_of model entity d ≢ Null =
        All-contains (λ (v : Value). v ≢ Null) (values_of model entity constraint.dependent) (value_of model entity d) there (contains_map (value_of model entity) constraint.dependent d among) in
        let small = number_small model outer has 0 (omega arith) in
        ⊎_elim
        (λ (part : Contains parts d).
        subst (IsShortFor model d) (sym (plain_part model has.sound outer 0 t key d part))
        (part_short model has.sound outer 0 has.row small u t concrete under key short d part))
        (λ (no_part : ¬ Contains parts d).
        let declared = dependent_kind model has.sound d by in
        subst (IsShortFor model d)
        (sym (plain_dependent model has.sound outer 0 t key d by of_type no_part not_null ∙ fresh_is model d declared.0 declared.1 outer (added_value 0)))
        (record {
          declared = declared.0;
          is_declared = declared.1;
          short = fresh_short declared.0.kind outer (added_value 0) has.row small;
          of_sort = fresh_sort declared.0.kind declared.2 outer (added_value 0);
        }))
        (so_or_not (is_among d parts) (Decides-among parts d))

  -- a step leads from a short key to a short key
  pub step_short : (from to : PlacedKey) → HasShortParts model from.set from.key → Contains (steps model outer from) to → HasShortParts model to.set to.key
  step_short from to short has_step = by (slice_get model.sets from.set.index) refl has_step
    where
      by : (found : Option EntitySet) → slice_get model.sets from.set.index ≡ found
          → Contains (option_map_or (λ set. principals model from.set (plain model outer 0 set.element from.key)) found []) to → HasShortParts model to.set to.key
      by None none in_none = absurd (contains_nil to in_none)
      by (Some set) here in_some =
          let asks : AsksFor model from.set (plain model outer 0 set.element from.key) to = asked_of model has.sound from.set (plain model outer 0 set.element from.key) to in_some in
          let P : PlacedKey → Type 0 = λ one. HasShortParts model one.set one.key in
          subst P (sym asks.is)
          (principal_short asks.assoc asks.constraint asks.is_assoc asks.constrained (plain model outer 0 set.element from.key)
          (plain_short from.set set.element (asked_concrete model has.sound from.set set here 0) (asked_under model has.sound from.set set here 0) from.key short
          asks.assoc asks.constraint asks.is_assoc asks.constrained asks.covers asks.there))
