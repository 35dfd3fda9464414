-- Keys without a part of a given key, which has no value of the row of numbers: plain entities of such keys ask for such keys alone.
use Rattle.std.proofs.Common.{◌≢◌, ⊎_elim, ℕ, ◌<◌, ◌==◌, List, [], ◌∷◌, map, Contains, refl, sym, subst, ◌∙◌, arith}
use Rattle.std.proofs.lemmas.Bool.{cond_both}
use Rattle.std.proofs.lemmas.List.Elements.{All-contains}
use Rattle.emc_base.proofs.Mapped.{contains_map}
use Rattle.emc_base.proofs.Members.{contains_head, contains_tail}
use Rattle.emc_base.proofs.Numbered.{map_contains}
use Rattle.round_trip.specs.Words.{SetId, TypeId, PropId, Value, Null, Kind, EntityModel, EntitySet, Prop, Constraint, Entity, At, dependent_end, principal_end, key_props, props_of, value_beside, value_of, values_of}
use Rattle.round_trip.specs.soundness.Lookups.{set_key}
use Rattle.round_trip.specs.soundness.models.Constraints.{HasMatchedLists}
use Rattle.round_trip.specs.soundness.models.Inheritance.{IsKeyProp}
use Rattle.schema_laws.specs.short_values.Fresh.{added_value, fresh, fresh_at, most_indices}
use Rattle.schema_laws.specs.short_values.Places.{is_among}
use Rattle.schema_laws.proofs.sound_types.Dependent.{dependent_kind}
use Rattle.schema_laws.proofs.sound_types.Inherited.{inherits_prop, key_prop}
use Rattle.schema_laws.proofs.short_values.Places.{Decides-among, fresh_is}
use Rattle.schema_laws.proofs.state_demand.writings.Decisions.{so_or_not}
use Rattle.population.specs.Given.{HasNumbers}
use Rattle.population.specs.Numbered.{number_count, numbered_key}
use Rattle.population.specs.Plain.{first_concrete, plain}
use Rattle.population.specs.Principals.{AsksFor}
use Rattle.population.specs.declared.placed.PlacedKey.{PlacedKey}
use Rattle.population.specs.Support.{steps}
use Rattle.population.proofs.supporting.Arrows.{step_from}
use Rattle.population.proofs.principals.Matched.{IsMatched, part_matched, sound_constraint}
use Rattle.population.proofs.plain.Numbered.{number_small, set_key_is}
use Rattle.population.proofs.plain.Plain.{plain_part}
use Rattle.population.proofs.principals.Principals.{is_dependent_by, plain_dependent}
use Rattle.host_states.specs.BaseStates.{IsOuterKey}

-- a value beside a property that isn't null is one of the values
pub beside_among : (props : List PropId) (key : List Value) (p : PropId) → value_beside p props key ≢ Null → Contains key (value_beside p props key)
beside_among [] key p = λ there. absurd (there refl)
beside_among (q ∷ props) [] p = λ there. absurd (there refl)
beside_among (q ∷ props) (v ∷ key) p =
    cond_both (q.index == p.index) v (value_beside p props key) (λ w. w ≢ Null → Contains (v ∷ key) w)
    (λ told there. contains_head v key)
    (λ told there. contains_tail v key (value_beside p props key) (beside_among props key p there))

-- the value is no part of the key
abbrev pub IsFree : List Value → Value → Type 0
IsFree key v = ¬ Contains key v

-- no part of the other key is one of the key
abbrev pub IsClear : List Value → List Value → Type 0
IsClear key other = (v : Value) → Contains other v → IsFree key v

module _ (model : EntityModel) (outer : ℕ) (has : HasNumbers model outer) (key : List Value) (is_outer : IsOuterKey outer key) where
  -- values of the row of numbers are free
  pub fresh_free : (k : Kind) (i : ℕ) → i < most_indices → IsFree key (fresh k outer i)
  fresh_free k i below there =
      let IsOuter : Value → Type 0 = λ value. (kind : Kind) (j : ℕ) → j < most_indices → value ≢ fresh kind outer j in
      All-contains IsOuter key (fresh k outer i) is_outer there k i below refl

  pub at_free : (p : PropId) (declared : Prop) → At model.props p.index declared → (i : ℕ) → i < most_indices → IsFree key (fresh_at model outer p i)
  at_free p declared here i below = subst (IsFree key) (sym (fresh_is model p declared here outer i)) (fresh_free declared.kind i below)

  -- so keys of numbers are clear
  pub made_clear : (u : SetId) (set : EntitySet) → At model.sets u.index set → (index : PropId → ℕ) → ((p : PropId) → Contains (set_key model u) p → index p < most_indices)
      → IsClear key (map (λ p. fresh_at model outer p (index p)) (set_key model u))
  made_clear u set here index below v there =
      let found = map_contains (λ (p : PropId). fresh_at model outer p (index p)) (set_key model u) v there in
      let is_key : IsKeyProp model found.0 =
      key_prop model has.sound found.0 set.element (subst (λ props. Contains props found.0) (set_key_is model has.sound u set here) found.1) in
      subst (IsFree key) found.2 (at_free found.0 is_key.declared is_key.is_declared (index found.0) (below found.0 found.1))

  pub number_clear : (u : SetId) (set : EntitySet) → At model.sets u.index set → (number : ℕ) → number < number_count model → IsClear key (numbered_key model outer u number)
  number_clear u set here number below = made_clear u set here (λ p. added_value number) (λ p part. number_small model outer has number below)

  -- where the dependent values of an entity are free, the key that it asks for is clear
  pub asked_clear : (u : SetId) (entity : Entity) (to : PlacedKey) (asks : AsksFor model u entity to)
      → ((d : PropId) → Contains asks.constraint.dependent d → value_of model entity d ≢ Null → IsFree key (value_of model entity d)) → IsClear key to.key
  asked_clear u entity to asks each =
      let P : PlacedKey → Type 0 = λ one. IsClear key one.key in
      let constraint : Constraint = asks.constraint in
      subst P (sym asks.is) (λ v there.
      let found = map_contains (λ (p : PropId). value_beside p constraint.principal (values_of model entity constraint.dependent)) (key_props model (principal_end asks.assoc constraint).ty) v there in
      let of : IsMatched model constraint.principal constraint.dependent found.0 = part_matched model has.sound asks.assoc constraint asks.is_assoc asks.constrained found.0 found.1 in
      subst (IsFree key) (sym (of.beside (value_of model entity)) ∙ found.2)
      (each of.other of.among
      (All-contains (λ (w : Value). w ≢ Null) (values_of model entity constraint.dependent) (value_of model entity of.other) asks.there
      (contains_map (value_of model entity) constraint.dependent of.other of.among))))

  -- a plain entity of a clear key asks for clear keys alone
  pub plain_clear : (u : SetId) (t : TypeId) (number : ℕ) → number < number_count model → (other : List Value) → IsClear key other → (to : PlacedKey)
      → AsksFor model u (plain model outer number t other) to → IsClear key to.key
  plain_clear u t number below other clear to asks = asked_clear u (plain model outer number t other) to asks free
    where
      free : (d : PropId) → Contains asks.constraint.dependent d → value_of model (plain model outer number t other) d ≢ Null
          → IsFree key (value_of model (plain model outer number t other) d)
      free d among there =
          let parts : List PropId = key_props model (first_concrete model t) in
          let by = is_dependent_by model has.sound asks.assoc asks.constraint asks.is_assoc asks.constrained d among in
          let lists : HasMatchedLists model asks.assoc asks.constraint = (sound_constraint model has.sound asks.assoc asks.constraint asks.is_assoc asks.constrained).lists in
          let of_type : Contains (props_of model (first_concrete model t)) d =
          inherits_prop model has.sound d (first_concrete model t) (dependent_end asks.assoc asks.constraint).ty asks.covers
          (All-contains (Contains (props_of model (dependent_end asks.assoc asks.constraint).ty)) asks.constraint.dependent d lists.dependent among) in
          ⊎_elim
          (λ (part : Contains parts d).
          let is = plain_part model has.sound outer number t other d part in
          subst (IsFree key) (sym is) (clear (value_beside d parts other) (beside_among parts other d (λ null. there (is ∙ null)))))
          (λ (no_part : ¬ Contains parts d).
          let declared = dependent_kind model has.sound d by in
          subst (IsFree key) (sym (plain_dependent model has.sound outer number t other d by of_type no_part there))
          (at_free d declared.0 declared.1 (added_value number) (number_small model outer has number below)))
          (so_or_not (is_among d parts) (Decides-among parts d))

  -- steps lead from clear keys to clear keys
  pub step_clear : (from to : PlacedKey) → IsClear key from.key → Contains (steps model outer from) to → IsClear key to.key
  step_clear from to clear has_step =
      let step = step_from model outer has from to has_step in
      plain_clear from.set step.0.element 0 (omega arith) from.key clear to step.2
