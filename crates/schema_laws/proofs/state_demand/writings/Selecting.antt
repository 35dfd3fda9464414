-- Values, keys, tests, picks and selection are decided by what is computed.
use Rattle.std.proofs.Common.{◌≡◌, List, Bool, true, false, not, ◌&&◌, ◌==◌, Decides, MatchBool, All, Any, refl, ap, subst, if◌then◌else◌}
use Rattle.std.specs.Cmp.{Equal-is, IsTotalOrder}
use Rattle.std.specs.Cmp.Lexicographic.{slice_cmp}
use Rattle.std.proofs.lemmas.Cmp.{lists_total, tied_itself}
use Rattle.std.specs.FinMap.{IsAntisymmetric, slice_cmp-IsAntisymmetric}
use Rattle.std.specs.Ordering.{eq_by_cmp}
use Rattle.std.specs.declared.cmp.Ordering.{Ordering}
use Rattle.std.specs.declared.cmp.Ordering.TheVariants.{Equal}
use Rattle.std.specs.List.{list_all, list_any}
use Rattle.std.proofs.lemmas.Bool.Decides.{Decides-and, Decides-eqb, Decides-like, Decides-not}
use Rattle.emc_base.specs.Order.{value_cmp}
use Rattle.emc_base.specs.OrderLaws.{value_cmp_apart, value_cmp_total}
use Rattle.round_trip.specs.Words.{TypeId, Value, Null, EntityModel, Fragment, Pick, Cond, CondOn, Test, Entity, IsA, value_of, Passes, MetByEntity, IsPicked, Selects}
use Rattle.edm_types.specs.declared.mapping.CondOn.TheVariants as on
use Rattle.edm_types.specs.declared.mapping.Test.TheVariants.{IsNull, Equals}
use Rattle.schema_laws.specs.state_demand.Selecting.{DecidesTypes, same_key, same_value, passes, met_by_entity, is_picked, selects}
use Rattle.schema_laws.proofs.state_demand.lists.Lists.{Decides-all, Decides-any}

-- things that a total order doesn't tell apart are one
Decides-by_order : {X : Type 0} (cmp : X → X → Ordering) → IsTotalOrder cmp → IsAntisymmetric cmp → (one two : X) → Decides (eq_by_cmp cmp one two) (one ≡ two)
Decides-by_order {X} cmp total apart one two = (
  (λ told. apart one two ((Equal-is (cmp one two)).0 told)),
  (λ same. (Equal-is (cmp one two)).1 (let P : X → Type 0 = λ x. cmp one x ≡ Equal in subst P same (tied_itself total one))),
)

pub Decides-value : (one two : Value) → Decides (same_value one two) (one ≡ two)
Decides-value one two = Decides-by_order value_cmp value_cmp_total value_cmp_apart one two

pub Decides-key : (one two : List Value) → Decides (same_key one two) (one ≡ two)
Decides-key one two = Decides-by_order (slice_cmp value_cmp) (lists_total value_cmp_total) (slice_cmp-IsAntisymmetric value_cmp_apart) one two

pub Decides-passes : (test : Test) (value : Value) → Decides (passes test value) (Passes test value)
Decides-passes (IsNull true) value = Decides-value value Null
Decides-passes (IsNull false) value = Decides-not (same_value value Null) (Decides-value value Null)
Decides-passes (Equals constant) value =
    Decides-and (same_value value constant) (not (same_value value Null)) (Decides-value value constant) (Decides-not (same_value value Null) (Decides-value value Null))

Decides-met : (model : EntityModel) (entity : Entity) (what : CondOn) (test : Test) → Decides (met_by_entity model entity what test) (MetByEntity model entity what test)
Decides-met model entity (on.Prop prop) test = Decides-passes test (value_of model entity prop)
Decides-met model entity (on.Col col) test = (λ told. tt, λ met. refl)

module _ (model : EntityModel) (is_a : TypeId → TypeId → Bool) (decides : DecidesTypes model is_a) where
  Decides-picked : (t : TypeId) (pick : Pick) → Decides (is_picked is_a t pick) (IsPicked model t pick)
  Decides-picked t pick = by pick.below
    where
      by : (below : Bool) → Decides (if below then is_a t pick.ty else (t.index == pick.ty.index)) (MatchBool below (IsA model t pick.ty) (t ≡ pick.ty))
      by true = decides.tells t pick.ty
      by false = Decides-like (t.index == pick.ty.index) (λ same i. record { index = same i }) (λ same. ap (λ (u : TypeId). u.index) same) (Decides-eqb t.index pick.ty.index)

  pub Decides-selects : (fragment : Fragment) (entity : Entity) → Decides (selects is_a model fragment entity) (Selects model fragment entity)
  Decides-selects fragment entity =
      let picked = list_any (is_picked is_a entity.ty) fragment.picks in
      let meets = list_all (λ (cond : Cond). met_by_entity model entity cond.on cond.test) fragment.conds in
      Decides-like (picked && meets)
      (λ (parts : Any (IsPicked model entity.ty) fragment.picks × All
      (λ (cond : Cond). MetByEntity model entity cond.on cond.test) fragment.conds). record { picked = parts.0; meets = parts.1 })
      (λ selected. (selected.picked, selected.meets))
      (Decides-and picked meets
      (Decides-any (is_picked is_a entity.ty) (IsPicked model entity.ty) (Decides-picked entity.ty) fragment.picks)
      (Decides-all (λ (cond : Cond). met_by_entity model entity cond.on cond.test) (λ (cond : Cond). MetByEntity model entity cond.on cond.test)
      (λ cond. Decides-met model entity cond.on cond.test) fragment.conds))
