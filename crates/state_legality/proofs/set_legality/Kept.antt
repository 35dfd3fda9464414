-- Legal sets break no rule.
use Rattle.std.proofs.Common.{⊎_elim, inl, inr, sym, subst, ◌∙◌}
use Rattle.emc_base.proofs.Mapped.{contains_at}
use Rattle.round_trip.specs.Words.{EntityModel, Value, State, entities_in, key_of, props_of, HasAllowedNulls, HasFittingType, HasValuesInDomain, InDomain}
use Rattle.entity_state.specs.declared.breach_order.found.Found.{Found}
use Rattle.entity_state.proofs.breach_order.Apart.{apart_none}
use Rattle.entity_state.proofs.breach_order.Turns.{all_here}
use Rattle.state_legality.specs.set_legality.Tells.{AreLegalSets, BreaksSets}

module _ (model : EntityModel) (state : State) (legal : AreLegalSets model state.entities) where
  pub kept : (found : Found) → ¬ BreaksSets model state found
  kept found (inl (is, at)) =
      at.broken (all_here (HasFittingType model at.set) (entities_in state (record { index = at.s })) at.i at.entity (legal at.s at.set at.stands.is_set).types at.stands.is_entity)
  kept found (inr (inl (is, (declared, at, not)))) =
      let may = all_here (HasAllowedNulls model) (entities_in state (record { index = at.s })) at.i at.entity (legal at.s at.set at.stands.is_set).nulls at.stands.is_entity at.prop declared
      (record { among = contains_at (props_of model at.entity.ty) at.j at.prop at.is_prop; is_declared = at.is_declared }) (sym at.value_is) in
      absurd cc
  kept found (inr (inr (inl (is, (value, declared, at, told, outside))))) =
      ⊎_elim (λ null. told (at.value_is ∙ null)) (λ inside. outside (subst (λ (v : Value). InDomain v declared.kind) (sym at.value_is) inside))
      (all_here (HasValuesInDomain model) (entities_in state (record { index = at.s })) at.i at.entity (legal at.s at.set at.stands.is_set).domains at.stands.is_entity at.prop declared
      (record { among = contains_at (props_of model at.entity.ty) at.j at.prop at.is_prop; is_declared = at.is_declared }))
  kept found (inr (inr (inr (is, key)))) =
      apart_none (key_of model) (entities_in state (record { index = key.s })) (legal key.s key.set key.stands.is_set).keys key.i
      (record {
        earlier = key.earlier;
        before = key.before;
        item = key.entity;
        other = key.other;
        here = key.stands.is_entity;
        there = key.other_stands.is_entity;
        like = key.same;
      })
