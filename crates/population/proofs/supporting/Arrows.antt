-- A step to a key at which no entity of a number stands is by an arrow, and arrows lead through no more sets than there are.
use Rattle.std.proofs.Common.{◌≡◌, ◌≢◌, ◌⊎◌, ⊎_elim, ℕ, suc, ◌<◌, ◌≤◌, ◌==◌, List, [], ◌∷◌, map, length, slice_get, inl, inr, All, Contains, Option, Some, None, true, false, if◌then◌else◌, refl, sym, ap, subst, ◌∙◌, arith}
use Rattle.std.specs.Option.{option_map_or}
use Rattle.std.proofs.lemmas.Bool.{cond-true}
use Rattle.std.proofs.lemmas.List.Elements.{All-contains}
use Rattle.std.proofs.lemmas.List.Kept.{AllPairs-cons}
use Rattle.std.proofs.lemmas.Option.{slice_get_within}
use Rattle.std.proofs.lemmas.List.{length-map}
use Rattle.emc_base.specs.Lists.{AreApart}
use Rattle.emc_base.proofs.FoundItems.{some_member}
use Rattle.emc_base.proofs.Lists.{all_from_members}
use Rattle.emc_base.proofs.Mapped.{contains_map}
use Rattle.emc_base.proofs.Members.{contains_cons_cases, contains_nil}
use Rattle.round_trip.specs.Words.{SetId, PropId, TypeId, Value, Null, EntityModel, EntitySet, Prop, Assoc, Constraint, Entity, At, dependent_end, key_props, props_of, value_of, values_of}
use Rattle.round_trip.specs.soundness.Lookups.{IsNeeded}
use Rattle.round_trip.specs.soundness.models.Constraints.{HasArrow, HasMatchedLists, Leads, arrow, further}
use Rattle.round_trip.specs.soundness.models.Inheritance.{IsKeyProp}
use Rattle.schema_laws.specs.short_values.Fresh.{added_value, fresh}
use Rattle.schema_laws.specs.short_values.Numbers.{numbers_from}
use Rattle.schema_laws.specs.short_values.Places.{is_among, is_dependent}
use Rattle.schema_laws.proofs.sound_demand.Keys.{inherits_keys}
use Rattle.schema_laws.proofs.sound_types.Dependent.{dependent_kind}
use Rattle.schema_laws.proofs.sound_types.Inherited.{inherits_prop, key_prop}
use Rattle.schema_laws.proofs.short_values.Places.{Decides-among}
use Rattle.schema_laws.proofs.state_demand.lists.Ids.{Decides-set}
use Rattle.schema_laws.proofs.state_demand.lists.Lists.{any_or_none}
use Rattle.schema_laws.proofs.state_demand.writings.Decisions.{so_or_not}
use Rattle.population.specs.Given.{HasNumbers}
use Rattle.population.specs.Numbered.{number_count, numbered_key}
use Rattle.population.specs.Plain.{first_concrete, first_value, plain}
use Rattle.population.specs.Principals.{AsksFor, PlacedKey, principals}
use Rattle.population.specs.Support.{steps}
use Rattle.population.proofs.principals.Asked.{asked_of}
use Rattle.population.proofs.supporting.Entities.{smaller_there}
use Rattle.population.proofs.supporting.Least.{no_more}
use Rattle.population.proofs.plain.Lists.{length-numbers}
use Rattle.population.proofs.principals.Matched.{sound_constraint}
use Rattle.population.proofs.plain.Plain.{plain_other}
use Rattle.population.proofs.principals.Principals.{is_dependent_by, numbered_principal, plain_dependent}

-- arrows one after the other
pub leads_then : (model : EntityModel) (from next to : SetId) → Leads model from next → HasArrow model next to → Leads model from to
leads_then model from next to (arrow _ _ first) last = further from next to first (arrow next to last)
leads_then model from next to (further _ mid _ first rest) last = further from mid to first (leads_then model mid next to rest last)

-- the key is that of no number
abbrev pub IsBeyondNumbers : EntityModel → ℕ → PlacedKey → Type 0
IsBeyondNumbers model outer placed = (number : ℕ) → number < number_count model → placed.key ≢ numbered_key model outer placed.set number

module _ (model : EntityModel) (outer : ℕ) (has : HasNumbers model outer) where
  -- a principal of a plain entity of number zero is that of an arrow, or of number zero
  module _ (u : SetId) (t : TypeId) (key : List Value) (to : PlacedKey) (asks : AsksFor model u (plain model outer 0 t key) to) where
    abbrev entity : Entity
    entity = plain model outer 0 t key

    abbrev constraint : Constraint
    constraint = asks.constraint

    abbrev assoc : Assoc
    assoc = asks.assoc

    abbrev parts : List PropId
    parts = key_props model (first_concrete model t)

    lists : HasMatchedLists model assoc constraint
    lists = (sound_constraint model has.sound assoc constraint asks.is_assoc asks.constrained).lists

    keys_are : parts ≡ key_props model (dependent_end assoc constraint).ty
    keys_are = (inherits_keys model has.sound).same (first_concrete model t) (dependent_end assoc constraint).ty asks.covers

    of_type : (d : PropId) → Contains constraint.dependent d → Contains (props_of model (first_concrete model t)) d
    of_type d among = inherits_prop model has.sound d (first_concrete model t) (dependent_end assoc constraint).ty asks.covers
        (All-contains (Contains (props_of model (dependent_end assoc constraint).ty)) constraint.dependent d lists.dependent among)

    there : (d : PropId) → Contains constraint.dependent d → value_of model entity d ≢ Null
    there d among = All-contains (λ (v : Value). v ≢ Null) (values_of model entity constraint.dependent) (value_of model entity d) asks.there
        (contains_map (value_of model entity) constraint.dependent d among)

    -- none of its dependent properties may be null
    needed : (d : PropId) → Contains constraint.dependent d → IsNeeded model d
    needed d among = ⊎_elim
        (λ (part : Contains parts d). let is_key : IsKeyProp model d = key_prop model has.sound d (first_concrete model t) part in (is_key.declared, is_key.is_declared, is_key.needed))
        (λ (no_part : ¬ Contains parts d).
        let declared = dependent_kind model has.sound d (is_dependent_by model has.sound assoc constraint asks.is_assoc asks.constrained d among) in
        (declared.0, declared.1, by declared.0 declared.1 no_part declared.0.nullable refl))
        (so_or_not (is_among d parts) (Decides-among parts d))
      where
        by : (declared : Prop) → At model.props d.index declared → ¬ Contains parts d → (nullable : _) → declared.nullable ≡ nullable → declared.nullable ≡ false
        by declared here no_part true may =
            absurd (there d among (plain_other model has.sound outer 0 t key d declared here (of_type d among) no_part
            ∙ cond-true declared.nullable Null (if is_dependent model d then fresh declared.kind outer (added_value 0) else first_value declared.kind) may))
        by declared here no_part false may = may

    arrow_or_zero : HasArrow model u to.set ⊎ (to.key ≡ numbered_key model outer to.set 0)
    arrow_or_zero = ⊎_elim
        (λ (some : (d : PropId) × Contains constraint.dependent d × Contains (key_props model (dependent_end assoc constraint).ty) d).
        inl (record {
          assoc = assoc;
          constraint = constraint;
          is_assoc = asks.is_assoc;
          constrained = asks.constrained;
          by_key = some_member (Contains (key_props model (dependent_end assoc constraint).ty)) constraint.dependent some.0 some.1 some.2;
          needed = all_from_members (IsNeeded model) constraint.dependent needed;
          from_is = asks.at_end;
          to_is = sym (ap (λ (one : PlacedKey). one.set) asks.is);
        }))
        (λ (none : (d : PropId) → Contains constraint.dependent d → ¬ Contains (key_props model (dependent_end assoc constraint).ty) d).
        let is_zero = numbered_principal model has.sound outer 0 assoc constraint asks.is_assoc asks.constrained entity (λ d among.
        plain_dependent model has.sound outer 0 t key d (is_dependent_by model has.sound assoc constraint asks.is_assoc asks.constrained d among) (of_type d among)
        (λ part. none d among (subst (λ props. Contains props d) keys_are part)) (there d among)) in
        let P : PlacedKey → Type 0 = λ one. one.key ≡ numbered_key model outer one.set 0 in
        inr (subst P (sym asks.is) is_zero))
        (any_or_none (Contains (key_props model (dependent_end assoc constraint).ty))
        (λ d. so_or_not (is_among d (key_props model (dependent_end assoc constraint).ty)) (Decides-among (key_props model (dependent_end assoc constraint).ty) d)) constraint.dependent)

  -- a step from a key, with the set that it stands in
  pub step_from : (from to : PlacedKey) → Contains (steps model outer from) to
      → (set : EntitySet) × At model.sets from.set.index set × AsksFor model from.set (plain model outer 0 set.element from.key) to
  step_from from to has_step = by (slice_get model.sets from.set.index) refl has_step
    where
      by : (found : Option EntitySet) → slice_get model.sets from.set.index ≡ found
          → Contains (option_map_or (λ set. principals model from.set (plain model outer 0 set.element from.key)) found []) to
          → (set : EntitySet) × At model.sets from.set.index set × AsksFor model from.set (plain model outer 0 set.element from.key) to
      by None none in_none = absurd (contains_nil to in_none)
      by (Some set) here in_some = (set, here, asked_of model has.sound from.set (plain model outer 0 set.element from.key) to in_some)

  pub step_arrow : (from to : PlacedKey) → Contains (steps model outer from) to → IsBeyondNumbers model outer to → HasArrow model from.set to.set
  step_arrow from to has_step beyond =
      let step = step_from from to has_step in
      ⊎_elim
      (λ (is : HasArrow model from.set to.set). is)
      (λ (zero_key : to.key ≡ numbered_key model outer to.set 0). absurd (beyond 0 (omega arith) zero_key))
      (arrow_or_zero from.set step.0.element from.key to step.2)

  pub step_within : (from to : PlacedKey) → Contains (steps model outer from) to → from.set.index < length model.sets
  step_within from to has_step = let step = step_from from to has_step in slice_get_within model.sets from.set.index step.0 step.1

  -- so many different sets lead to the key's set
  pub record IsReached (n : ℕ) (u : SetId) : Type 0 where
    pub path : List SetId
    pub count : length path ≡ n
    pub apart : AreApart path
    pub within : All (λ s. s.index < length model.sets) path
    pub leads : All (λ s. Leads model s u) path

  pub reached_first : (u : SetId) → IsReached 0 u
  reached_first u = record {
    path = [];
    count = refl;
    apart = λ i j d below within. absurd (omega (arith, within));
    within = λ i d below. absurd (omega (arith, below));
    leads = λ i d below. absurd (omega (arith, below));
  }

  pub reached_then : (n : ℕ) (from to : SetId) → from.index < length model.sets → HasArrow model from to → IsReached n from → IsReached (suc n) to
  reached_then n from to inside is reached =
      let Inside : SetId → Type 0 = λ s. s.index < length model.sets in
      let To : SetId → Type 0 = λ s. Leads model s to in
      let From : SetId → Type 0 = λ s. Leads model s from in
      record {
        path = from ∷ reached.path;
        count = ap suc reached.count;
        apart = AllPairs-cons (λ a b. a ≢ b) from reached.path
            (all_from_members (λ s. from ≢ s) reached.path (λ s has_s equal.
            has.sound.arrows from (subst From (sym equal) (All-contains From reached.path s reached.leads has_s))))
            reached.apart;
        within = all_from_members Inside (from ∷ reached.path) (λ s has_s. ⊎_elim
            (λ (here : s ≡ from). subst Inside (sym here) inside)
            (λ (later : Contains reached.path s). All-contains Inside reached.path s reached.within later)
            (contains_cons_cases from reached.path s has_s));
        leads = all_from_members To (from ∷ reached.path) (λ s has_s. ⊎_elim
            (λ (here : s ≡ from). subst To (sym here) (arrow from to is))
            (λ (later : Contains reached.path s). leads_then model s from to (All-contains From reached.path s reached.leads later) is)
            (contains_cons_cases from reached.path s has_s));
      }

  -- these are no more than there are sets
  pub reached_few : (n : ℕ) (u : SetId) → IsReached n u → n ≤ length model.sets
  reached_few n u reached =
      let all : List SetId = map (λ k. record { index = k }) (numbers_from 0 (length model.sets)) in
      let Inside : SetId → Type 0 = λ s. s.index < length model.sets in
      let few : length reached.path ≤ length all = no_more (λ a b. a.index == b.index) Decides-set reached.path all reached.apart (λ s has_s.
      contains_map (λ k. record { index = k }) (numbers_from 0 (length model.sets)) s.index
      (smaller_there (length model.sets) s.index (All-contains Inside reached.path s reached.within has_s))) in
      let long : length all ≡ length model.sets = length-map (numbers_from 0 (length model.sets)) _ ∙ length-numbers 0 (length model.sets) in
      let is = reached.count in
      omega (arith, few, long, is)
