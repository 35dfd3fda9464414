-- What the walk over the sets finds is just what breaks S1 to S4.
use Rattle.std.proofs.Common.{◌≡◌, inl, inr, ℕ, List, [], ◌∷◌, Option, refl, sym, ap, subst, ◌∙◌}
use Rattle.std.specs.Prelude.{codes}
use Rattle.emc_base.specs.Lists.{At}
use Rattle.emc_base.proofs.facts.Images.{map_at}
use Rattle.emc_base.proofs.Joined.{at_map}
use Rattle.groupings.specs.least_fault.Least.{Among, IsLeast}
use Rattle.groupings.proofs.least_fault.Leasts.{least_same}
use Rattle.round_trip.specs.Words.{Value, Null, place_at, EntityModel, EntitySet, Prop, PropId, Entity, State, entities_in, key_of, props_of}
use Rattle.round_trip.specs.legality.Breaches.{StandsAtProp, BreaksKey, BreaksType}
use Rattle.round_trip.specs.soundness.models.Models.{IsSoundModel}
use Rattle.entity_state.specs.breach_order.Founds.{found_cmp}
use Rattle.entity_state.specs.declared.breach_order.found.Found.{Found}
use Rattle.entity_state.proofs.breach_order.Finds.{from_parts}
use Rattle.entity_state.specs.declared.entity_values.rule.StateRule.{StateRule}
use Rattle.entity_state.specs.declared.entity_values.rule.StateRule.TheVariants as rule
use Rattle.entity_state.specs.entity_values.Rules.{rule_number}
use Rattle.state_legality.specs.set_legality.Props.{BreaksAtProp, IsPropBreach, value_numbered}
use Rattle.state_legality.specs.set_legality.Types.{IsFitting, IsTypeBreach}
use Rattle.state_legality.specs.set_legality.Found.{IsEntityBreach, IsKeyBreach, IsSetBreach}
use Rattle.state_legality.specs.set_legality.Tells.{BreaksSets}
use Rattle.state_legality.proofs.set_legality.Beside.{value_at_place}

module _ (model : EntityModel) (sound : IsSoundModel model) (state : State) where
  abbrev entities_of : ℕ → List Entity
  entities_of s = entities_in state (record { index = s })

  -- what the walk finds
  abbrev pub FoundInSets : Found → Type 0
  FoundInSets = Among (λ s set. IsSetBreach model s set (entities_of s)) model.sets

  module _ (found : Found) (s : ℕ) (set : EntitySet) (is_set : At model.sets s set) (i : ℕ) (entity : Entity) (is_entity : At (entities_of s) i entity) where
    type_breaks : IsTypeBreach model (IsFitting model set.element) s set i entity found → BreaksSets model state found
    type_breaks typed = inl (
      ap (λ (f : Found). f.rule) typed.found_is,
      record {
        s = s;
        i = i;
        set = set;
        entity = entity;
        stands = record { is_set = is_set; is_entity = is_entity };
        spot_is = ap (λ (f : Found). f.spot) typed.found_is;
        place_is = ap (λ (f : Found). f.place) typed.found_is;
        broken = λ fits. typed.broken (fits.concrete, fits.under);
      },
    )

    stands_at : (j : ℕ) (prop : PropId) (value : Value) (declared : Prop) (number : ℕ) → At (props_of model entity.ty) j prop → At model.props prop.index declared
        → value ≡ value_numbered entity j → found ≡ record { rule = number; spot = s ∷ i ∷ j ∷ []; place = place_at set.name (key_of model entity) declared.name }
        → StandsAtProp model state found.spot found.place value declared
    stands_at j prop value declared number is_prop is_declared value_is is = record {
      s = s;
      i = i;
      j = j;
      set = set;
      entity = entity;
      prop = prop;
      stands = record { is_set = is_set; is_entity = is_entity };
      is_prop = is_prop;
      is_declared = is_declared;
      value_is = value_is ∙ sym (value_at_place model sound entity j prop is_prop);
      spot_is = ap (λ (f : Found). f.spot) is;
      place_is = ap (λ (f : Found). f.place) is;
    }

    prop_breaks : (j : ℕ) (prop : PropId) → At (props_of model entity.ty) j prop → IsPropBreach model s set i entity j prop found → BreaksSets model state found
    prop_breaks j prop is_prop some = by some.rule some.broken some.found_is
      where
        by : (broken : StateRule) → BreaksAtProp (value_numbered entity j) some.declared broken
            → found ≡ record { rule = rule_number broken; spot = s ∷ i ∷ j ∷ []; place = place_at set.name (key_of model entity) some.declared.name } → BreaksSets model state found
        by rule.Null breaks is = inr (inl (
          ap (λ (f : Found). f.rule) is,
          (some.declared, stands_at j prop Null some.declared 2 is_prop some.is_declared (sym breaks.0) is, breaks.1),
        ))
        by rule.Domain breaks is = inr (inr (inl (
          ap (λ (f : Found). f.rule) is,
          (value_numbered entity j, some.declared, stands_at j prop (value_numbered entity j) some.declared 3 is_prop some.is_declared refl is, breaks.0, breaks.1),
        )))
        by rule.Type breaks is = absurd breaks
        by rule.Key breaks is = absurd breaks
        by rule.End breaks is = absurd breaks
        by rule.Once breaks is = absurd breaks
        by rule.Count breaks is = absurd breaks
        by rule.Principal breaks is = absurd breaks

  key_breaks : (found : Found) (s : ℕ) (set : EntitySet) → At model.sets s set → IsKeyBreach model s set (entities_of s) found → BreaksSets model state found
  key_breaks found s set is_set some =
      let repeat = some.repeat in
      let entity = map_at (key_of model) (entities_of s) some.i repeat.item repeat.here in
      let other = map_at (key_of model) (entities_of s) repeat.earlier repeat.other repeat.there in
      inr (inr (inr (
        ap (λ (f : Found). f.rule) some.found_is,
        record {
          s = s;
          i = some.i;
          earlier = repeat.earlier;
          set = set;
          entity = entity.0;
          other = other.0;
          stands = record { is_set = is_set; is_entity = entity.1 };
          other_stands = record { is_set = is_set; is_entity = other.1 };
          before = repeat.before;
          same = other.2 ∙ repeat.like ∙ sym entity.2;
          spot_is = ap (λ (f : Found). f.spot) some.found_is;
          place_is = ap (λ (f : Found). f.place) some.found_is ∙ ap (λ (key : List Value). place_at set.name key []) (sym entity.2);
        },
      )))

  found_breaks : (found : Found) → FoundInSets found → BreaksSets model state found
  found_breaks found some = by some.holds
    where
      of_entity : (i : ℕ) (entity : Entity) → At (entities_of some.i) i entity → IsEntityBreach model (IsFitting model some.item.element) some.i some.item i entity found
          → BreaksSets model state found
      of_entity i entity here (inl typed) = type_breaks found some.i some.item some.here i entity here typed
      of_entity i entity here (inr props) = prop_breaks found some.i some.item some.here i entity here props.i props.item props.here props.holds

      by : IsSetBreach model some.i some.item (entities_of some.i) found → BreaksSets model state found
      by (inl at) = of_entity at.i at.item at.here at.holds
      by (inr key) = key_breaks found some.i some.item some.here key

  type_found : (found : Found) → found.rule ≡ 1 → BreaksType model state found.spot found.place → FoundInSets found
  type_found found is breaks = record {
    i = breaks.s;
    item = breaks.set;
    here = breaks.stands.is_set;
    holds = inl (record {
      i = breaks.i;
      item = breaks.entity;
      here = breaks.stands.is_entity;
      holds = inl (record {
        broken = λ fits. breaks.broken (record { concrete = fits.0; under = fits.1 });
        found_is = from_parts found 1 (breaks.s ∷ breaks.i ∷ []) (place_at breaks.set.name (key_of model breaks.entity) (codes "$type")) is breaks.spot_is breaks.place_is;
      });
    });
  }

  prop_found : (found : Found) (value : Value) (declared : Prop) (broken : StateRule) → StandsAtProp model state found.spot found.place value declared
      → BreaksAtProp value declared broken → found.rule ≡ rule_number broken → FoundInSets found
  prop_found found value declared broken stands breaks is = record {
    i = stands.s;
    item = stands.set;
    here = stands.stands.is_set;
    holds = inl (record {
      i = stands.i;
      item = stands.entity;
      here = stands.stands.is_entity;
      holds = inr (record {
        i = stands.j;
        item = stands.prop;
        here = stands.is_prop;
        holds = record {
          declared = declared;
          is_declared = stands.is_declared;
          rule = broken;
          broken = subst (λ (v : Value). BreaksAtProp v declared broken) (stands.value_is ∙ value_at_place model sound stands.entity stands.j stands.prop stands.is_prop) breaks;
          found_is = from_parts found (rule_number broken) (stands.s ∷ stands.i ∷ stands.j ∷ [])
              (place_at stands.set.name (key_of model stands.entity) declared.name) is stands.spot_is stands.place_is;
        };
      });
    });
  }

  key_found : (found : Found) → found.rule ≡ 4 → BreaksKey model state found.spot found.place → FoundInSets found
  key_found found is breaks = record {
    i = breaks.s;
    item = breaks.set;
    here = breaks.stands.is_set;
    holds = inr (record {
      i = breaks.i;
      repeat = record {
        earlier = breaks.earlier;
        before = breaks.before;
        item = key_of model breaks.entity;
        other = key_of model breaks.other;
        here = at_map (key_of model) (entities_of breaks.s) breaks.i breaks.entity breaks.stands.is_entity;
        there = at_map (key_of model) (entities_of breaks.s) breaks.earlier breaks.other breaks.other_stands.is_entity;
        like = breaks.same;
      };
      found_is = from_parts found 4 (breaks.s ∷ breaks.i ∷ []) (place_at breaks.set.name (key_of model breaks.entity) []) is breaks.spot_is breaks.place_is;
    });
  }

  breach_found : (found : Found) → BreaksSets model state found → FoundInSets found
  breach_found found (inl typed) = type_found found typed.0 typed.1
  breach_found found (inr (inl null)) = prop_found found Null null.1.0 rule.Null null.1.1 (refl, null.1.2) null.0
  breach_found found (inr (inr (inl domain))) = prop_found found domain.1.0 domain.1.1 rule.Domain domain.1.2 (domain.1.3, domain.1.4) domain.0
  breach_found found (inr (inr (inr key))) = key_found found key.0 key.1

  -- the least that the walk finds is the least breach
  pub least_breach : (found : Option Found) → IsLeast found_cmp FoundInSets found → IsLeast found_cmp (BreaksSets model state) found
  least_breach found is = least_same found_cmp FoundInSets (BreaksSets model state) found found_breaks breach_found is
