-- What is found at one entity and at one of its values, and the least of it.
use Rattle.std.proofs.Common.{◌≡◌, ◌↔◌, ⊎_elim, inl, inr, ℕ, List, [], ◌∷◌, Option, Some, None, Bool, true, false, not, IsTrue, slice_get, refl, sym, subst, ◌∙◌}
use Rattle.std.specs.Prelude.{codes}
use Rattle.std.specs.Option.{is_some}
use Rattle.std.proofs.lemmas.Option.{none-some}
use Rattle.emc_base.specs.Lists.{At}
use Rattle.emc_base.proofs.Lists.{at_once}
use Rattle.groupings.specs.least_fault.Least.{Among, IsLeast, earlier}
use Rattle.groupings.proofs.least_fault.Leasts.{least_of_both, least_only, least_same}
use Rattle.round_trip.specs.Words.{Value, PropId, TypeId, place_at, EntityModel, EntitySet, Prop, Entity, key_of, props_of}
use Rattle.entity_state.specs.breach_order.Founds.{found_cmp}
use Rattle.entity_state.specs.breach_order.FoundOrder.{found_cmp_total}
use Rattle.entity_state.specs.declared.breach_order.found.Found.{Found}
use Rattle.entity_state.proofs.breach_order.Finds.{along}
use Rattle.entity_state.specs.declared.entity_values.rule.StateRule.{StateRule}
use Rattle.entity_state.specs.declared.entity_values.rule.StateRule.TheVariants as rule
use Rattle.entity_state.specs.entity_values.Rules.{rule_number}
use Rattle.state_legality.specs.set_legality.Props.{BreaksAtProp, FitsAt, FitsProp, IsPropBreach, ValueTold, value_numbered}
use Rattle.state_legality.specs.set_legality.Types.{IsFitting, IsMarked, IsTypeBreach, MarksUnder}
use Rattle.state_legality.specs.set_legality.Found.{IsEntityBreach, IsKeyBreach, IsSetBreach}

module _ (value : Value) (declared : Prop) where
  -- what may stand there breaks no rule
  pub fits_not : FitsProp value declared → (broken : StateRule) → ¬ BreaksAtProp value declared broken
  fits_not fits rule.Null breaks = absurd (let may = fits.null breaks.0 in let may_not = breaks.1 in cc)
  fits_not fits rule.Domain breaks = ⊎_elim breaks.0 breaks.1 fits.domain
  fits_not fits rule.Type breaks = breaks
  fits_not fits rule.Key breaks = breaks
  fits_not fits rule.End breaks = breaks
  fits_not fits rule.Once breaks = breaks
  fits_not fits rule.Count breaks = breaks
  fits_not fits rule.Principal breaks = breaks

  -- no value breaks two rules
  pub one_rule : (one other : StateRule) → BreaksAtProp value declared one → BreaksAtProp value declared other → one ≡ other
  one_rule rule.Null rule.Null first second = refl
  one_rule rule.Domain rule.Domain first second = refl
  one_rule rule.Null rule.Domain first second = absurd (second.0 first.0)
  one_rule rule.Domain rule.Null first second = absurd (first.0 second.0)
  one_rule rule.Null rule.Type first second = absurd second
  one_rule rule.Null rule.Key first second = absurd second
  one_rule rule.Null rule.End first second = absurd second
  one_rule rule.Null rule.Once first second = absurd second
  one_rule rule.Null rule.Count first second = absurd second
  one_rule rule.Null rule.Principal first second = absurd second
  one_rule rule.Domain rule.Type first second = absurd second
  one_rule rule.Domain rule.Key first second = absurd second
  one_rule rule.Domain rule.End first second = absurd second
  one_rule rule.Domain rule.Once first second = absurd second
  one_rule rule.Domain rule.Count first second = absurd second
  one_rule rule.Domain rule.Principal first second = absurd second
  one_rule rule.Type other first second = absurd first
  one_rule rule.Key other first second = absurd first
  one_rule rule.End other first second = absurd first
  one_rule rule.Once other first second = absurd first
  one_rule rule.Count other first second = absurd first
  one_rule rule.Principal other first second = absurd first

module _ (model : EntityModel) (s : ℕ) (set : EntitySet) (i : ℕ) (entity : Entity) (j : ℕ) (prop : PropId) where
  -- a property that the model doesn't have has no breach
  pub no_prop : slice_get model.props prop.index ≡ None → IsLeast found_cmp (IsPropBreach model s set i entity j prop) None
  no_prop none found some = none-some some.declared (sym none ∙ some.is_declared)

  -- nor has one at which the value may stand
  pub fits_prop : (declared : Prop) → At model.props prop.index declared → FitsProp (value_numbered entity j) declared
      → IsLeast found_cmp (IsPropBreach model s set i entity j prop) None
  fits_prop declared here fits found some =
      let same : declared ≡ some.declared = at_once model.props prop.index declared some.declared here some.is_declared in
      fits_not (value_numbered entity j) some.declared (subst (FitsProp (value_numbered entity j)) same fits) some.rule some.broken

  -- the one breach that there is
  pub prop_found : (declared : Prop) (broken : StateRule) (found : Found) → At model.props prop.index declared → BreaksAtProp (value_numbered entity j) declared broken
      → found ≡ record { rule = rule_number broken; spot = s ∷ i ∷ j ∷ []; place = place_at set.name (key_of model entity) declared.name }
      → IsLeast found_cmp (IsPropBreach model s set i entity j prop) (Some found)
  prop_found declared broken found here breaks is =
      least_only found_cmp found_cmp_total (IsPropBreach model s set i entity j prop) found
      (record { declared = declared; is_declared = here; rule = broken; broken = breaks; found_is = is })
      (λ other some.
      let same : some.declared ≡ declared = at_once model.props prop.index some.declared declared some.is_declared here in
      let rules : some.rule ≡ broken = one_rule (value_numbered entity j) declared some.rule broken
      (subst (λ (d : Prop). BreaksAtProp (value_numbered entity j) d some.rule) same some.broken) breaks in
      some.found_is
      ∙ (λ k. record { rule = rule_number (rules k); spot = s ∷ i ∷ j ∷ []; place = place_at set.name (key_of model entity) (same k).name })
      ∙ sym is)

-- what a test of the value at a place says
pub fits_told : (model : EntityModel) (entity : Entity) (j : ℕ) (prop : PropId) (declared : Prop) → At model.props prop.index declared
    → (told : Option StateRule) (test : Bool) → is_some told ≡ not test → ValueTold (value_numbered entity j) declared told → IsTrue test ↔ FitsAt model entity j prop
fits_told model entity j prop declared here None true is tells = (
  λ _. record {
    told = λ other there.
        (let same : declared ≡ other = at_once model.props prop.index declared other here there in
        subst (FitsProp (value_numbered entity j)) same tells);
  },
  λ _. refl,
)
fits_told model entity j prop declared here None false is tells = absurd cc
fits_told model entity j prop declared here (Some broken) true is tells = absurd cc
fits_told model entity j prop declared here (Some broken) false is tells = (
  λ yes. absurd cc,
  λ fits. absurd (fits_not (value_numbered entity j) declared (fits.told declared here) broken tells),
)

-- where the model has no such property, nothing is asked
pub no_prop_fits : (model : EntityModel) (entity : Entity) (j : ℕ) (prop : PropId) → slice_get model.props prop.index ≡ None → IsTrue true ↔ FitsAt model entity j prop
no_prop_fits model entity j prop none = (λ _. record { told = λ declared here. absurd (none-some declared (sym none ∙ here)) }, λ _. refl)

-- the one breach of S1 that there is
pub type_found : (model : EntityModel) (Fits : TypeId → Type 0) (s : ℕ) (set : EntitySet) (i : ℕ) (entity : Entity) (found : Found) → ¬ Fits entity.ty
    → found ≡ record { rule = 1; spot = s ∷ i ∷ []; place = place_at set.name (key_of model entity) (codes "$type") }
    → IsLeast found_cmp (IsTypeBreach model Fits s set i entity) (Some found)
type_found model Fits s set i entity found broken is =
    least_only found_cmp found_cmp_total (IsTypeBreach model Fits s set i entity) found (record { broken = broken; found_is = is }) (λ other some. some.found_is ∙ sym is)

-- the least of what is found at an entity's type and at its values
pub at_entity : (model : EntityModel) (Fits : TypeId → Type 0) (s : ℕ) (set : EntitySet) (i : ℕ) (entity : Entity) (props : List PropId) (at_type at_props both : Option Found)
    → props ≡ props_of model entity.ty → both ≡ earlier found_cmp at_type at_props → IsLeast found_cmp (IsTypeBreach model Fits s set i entity) at_type
    → IsLeast found_cmp (Among (IsPropBreach model s set i entity) props) at_props → IsLeast found_cmp (IsEntityBreach model Fits s set i entity) both
at_entity model Fits s set i entity props at_type at_props both are is one other =
    subst (IsLeast found_cmp (IsEntityBreach model Fits s set i entity)) (sym is)
    (least_of_both found_cmp found_cmp_total (IsTypeBreach model Fits s set i entity) (Among (IsPropBreach model s set i entity) (props_of model entity.ty)) at_type at_props one
    (along (IsPropBreach model s set i entity) props (props_of model entity.ty) at_props are other))

-- types of which one word holds are those of which an equal one does
entities_as : (F G : TypeId → Type 0) → ((t : TypeId) → G t → F t) → (model : EntityModel) (s : ℕ) (set : EntitySet) (entities : List Entity) (found : Found)
    → Among (IsEntityBreach model F s set) entities found → Among (IsEntityBreach model G s set) entities found
entities_as F G to model s set entities found some = record { i = some.i; item = some.item; here = some.here; holds = by some.holds }
  where
    by : IsEntityBreach model F s set some.i some.item found → IsEntityBreach model G s set some.i some.item found
    by (inl typed) = inl (record { broken = λ fits. typed.broken (to some.item.ty fits); found_is = typed.found_is })
    by (inr props) = inr props

module _ (model : EntityModel) (element : TypeId) (marks : List Bool) (are : MarksUnder model element marks) (t : TypeId) where
  -- a concrete type is marked just where it is the element type or under it
  pub fitting : IsMarked model marks t → IsFitting model element t
  fitting both = (both.0, ((are t).0 both.1).2)

  pub marked : IsFitting model element t → IsMarked model marks t
  marked both = (both.0, (are t).1 (both.0.0, both.0.1, both.1))

-- the least of what is found in a set
pub in_set : (model : EntityModel) (s : ℕ) (set : EntitySet) (entities : List Entity) (marks : List Bool) (at_entities at_keys both : Option Found)
    → MarksUnder model set.element marks → both ≡ earlier found_cmp at_entities at_keys
    → IsLeast found_cmp (Among (IsEntityBreach model (IsMarked model marks) s set) entities) at_entities → IsLeast found_cmp (IsKeyBreach model s set entities) at_keys
    → IsLeast found_cmp (IsSetBreach model s set entities) both
in_set model s set entities marks at_entities at_keys both are is one other =
    subst (IsLeast found_cmp (IsSetBreach model s set entities)) (sym is)
    (least_of_both found_cmp found_cmp_total (Among (IsEntityBreach model (IsFitting model set.element) s set) entities) (IsKeyBreach model s set entities) at_entities at_keys
    (least_same found_cmp (Among (IsEntityBreach model (IsMarked model marks) s set) entities) (Among (IsEntityBreach model (IsFitting model set.element) s set) entities) at_entities
    (entities_as (IsMarked model marks) (IsFitting model set.element) (marked model set.element marks are) model s set entities)
    (entities_as (IsFitting model set.element) (IsMarked model marks) (fitting model set.element marks are) model s set entities) one)
    other)
