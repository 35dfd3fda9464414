-- The least fault of association sets: of V15, V18 and V20, and of V19.
use Rattle.std.proofs.Common.{◌⊎◌, ⊎_elim, inl, inr, ℕ, codes, Option}
use Rattle.groupings.specs.least_fault.Least.{IsLeast}
use Rattle.layouts.specs.declared.fault.Fault.{Fault}
use Rattle.layouts.specs.Faults.{fault_cmp}
use Rattle.layouts.proofs.rule_places.LeastFound.{least_in_list}
use Rattle.layouts.proofs.rule_places.Rules.{least_in_list_of_both}
use Rattle.csdl_names.specs.declared.csdl_lists.raw.RawAssociationSet.{RawAssociationSet}
use Rattle.csdl_names.specs.declared.csdl_lists.raw.RawModel.{RawModel}
use Rattle.csdl_names.specs.csdl_lists.References.{names_in}
use Rattle.csdl_associations.specs.csdl_association_sets.SetArrows.{IsArrowFault}
use Rattle.csdl_associations.specs.csdl_association_sets.SetRules.{IsSetFault}
use Rattle.csdl_associations.specs.csdl_association_sets.Told.{BreaksArrows, BreaksEndRules, BreaksSets, IsEndFault}

module _ (model : RawModel) where
  -- V19 beside the others
  abbrev Parts : ℕ → RawAssociationSet → Fault → Type 0
  Parts i set fault = IsEndFault model i set fault ⊎ IsArrowFault (names_in model) model i set fault

  to_whole : (i : ℕ) (set : RawAssociationSet) (fault : Fault) → Parts i set fault → IsSetFault (names_in model) model i set fault
  to_whole i set fault = ⊎_elim
      (⊎_elim (λ roles. inl roles) (⊎_elim (λ dependent. inr (inl dependent)) (λ types. inr (inr (inr types)))))
      (λ arrow. inr (inr (inl arrow)))

  to_parts : (i : ℕ) (set : RawAssociationSet) (fault : Fault) → IsSetFault (names_in model) model i set fault → Parts i set fault
  to_parts i set fault = ⊎_elim
      (λ roles. inl (inl roles))
      (⊎_elim (λ dependent. inl (inr (inl dependent))) (⊎_elim (λ arrow. inr arrow) (λ types. inl (inr (inr types)))))

  pub least_of_sets : (found : Option Fault) → IsLeast fault_cmp (λ fault. BreaksEndRules model fault ⊎ BreaksArrows model fault) found → IsLeast fault_cmp (BreaksSets model) found
  least_of_sets found least =
      let sets = model.container.association_sets in
      least_in_list (codes "AssociationSet") Parts (IsSetFault (names_in model) model) sets found to_whole to_parts
      (least_in_list_of_both (codes "AssociationSet") (IsEndFault model) (IsArrowFault (names_in model) model) sets found least)
