-- In a sound model the sets and types of ends are there.
use Rattle.std.proofs.Common.{◌≡◌, Bool, true, false, if◌then◌else◌, refl, sym, subst}
use Rattle.emc_base.specs.Lists.{At}
use Rattle.emc_base.proofs.Lists.{item_at}
use Rattle.round_trip.specs.Words.{AssocId, EntityModel, EntitySet, Assoc, Constraint, dependent_end}
use Rattle.entity_state.proofs.breach_order.Turns.{all_here}
use Rattle.round_trip.specs.soundness.models.ModelIds.{HasEndIds, IsTypeId}
use Rattle.round_trip.specs.soundness.models.Models.{IsSoundModel}
use Rattle.state_legality.specs.declared.link_legality.side.Side.{Side}
use Rattle.state_legality.specs.declared.link_legality.side.Side.TheVariants.{First, Second}
use Rattle.state_legality.specs.link_legality.Sides.{end_at}

module _ (model : EntityModel) (sound : IsSoundModel model) (a : AssocId) (assoc : Assoc) where
  module _ (here : At model.assocs a.index assoc) where
    both_ends : HasEndIds model assoc.first × HasEndIds model assoc.second
    both_ends = all_here (λ one. HasEndIds model one.first × HasEndIds model one.second) model.assocs a.index assoc sound.ids.ends here

    pub end_known : (side : Side) → IsTypeId model (end_at assoc side).ty
    end_known First = both_ends.0.1
    end_known Second = both_ends.1.1

  module _ (constraint : Constraint) (here : At model.assocs a.index assoc) where
    dependent_ids : HasEndIds model (dependent_end assoc constraint)
    dependent_ids = by constraint.dependent_first refl
      where
        Known : Bool → Type 0
        Known first = HasEndIds model (if first then assoc.first else assoc.second)

        by : (first : Bool) → constraint.dependent_first ≡ first → HasEndIds model (dependent_end assoc constraint)
        by true is = subst Known (sym is) (both_ends here).0
        by false is = subst Known (sym is) (both_ends here).1

    pub dependent_known : IsTypeId model (dependent_end assoc constraint).ty
    dependent_known = dependent_ids.1

    pub dependent_set : (set : EntitySet) × At model.sets (dependent_end assoc constraint).set.index set
    dependent_set = item_at model.sets (dependent_end assoc constraint).set.index dependent_ids.0
