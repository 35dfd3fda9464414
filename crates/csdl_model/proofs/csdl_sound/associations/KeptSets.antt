-- What V14, V15 and V18 to V20 give of sets and ends, where they are kept.
use Rattle.std.proofs.Common.{◌≡◌, inl, inr, ℕ, [], ◌∷◌, map, Any, Option, Some, codes, refl, sym, subst}
use Rattle.std.specs.Option.{MatchOption}
use Rattle.emc_base.specs.Lists.{At, HoldsEachOnce}
use Rattle.json_form.specs.declared.pointer.Step.TheVariants.{Item, Member}
use Rattle.layouts.specs.declared.fault.Fault.{Fault}
use Rattle.layouts.specs.declared.rule.Rule.TheVariants.{Arrows, ConcreteType, DependentKey, EndRoles, EndType}
use Rattle.csdl_names.specs.declared.csdl_lists.raw.RawAssociation.{RawAssociation}
use Rattle.csdl_names.specs.declared.csdl_lists.raw.RawAssociationSet.{RawAssociationSet}
use Rattle.csdl_names.specs.declared.csdl_lists.raw.RawConstraint.{RawConstraint}
use Rattle.csdl_names.specs.declared.csdl_lists.raw.RawEnd.{RawEnd}
use Rattle.csdl_names.specs.declared.csdl_lists.raw.RawModel.{RawModel}
use Rattle.csdl_names.specs.declared.csdl_lists.raw.RawSet.{RawSet}
use Rattle.csdl_names.specs.csdl_lists.References.{names_in}
use Rattle.csdl_names.specs.SetRoles.{element_of_role}
use Rattle.csdl_names.specs.Unresolved.{association_of, type_of_role}
use Rattle.csdl_associations.specs.csdl_constraints.Sides.{HasKeyProp, IsNamed}
use Rattle.csdl_associations.specs.csdl_association_sets.Concrete.{HasConcrete, IsElementFault, IsEndTypeFault, IsEndsFault, LacksConcrete}
use Rattle.csdl_associations.specs.csdl_association_sets.SetArrows.{IsOnCircle}
use Rattle.csdl_associations.specs.csdl_association_sets.SetEnds.{HasOtherDependent, HasOtherType}
use Rattle.csdl_associations.specs.csdl_association_sets.SetRules.{BreaksSetRules, IsContainerFault, IsSetFault}
use Rattle.layouts.proofs.rule_places.FaultPlaces.{fault_at, in_list}
use Rattle.emc_base.proofs.Stable.{has_each, same_places}

module _ (raw : RawModel) (never : (fault : Fault) → ¬ BreaksSetRules raw fault) where
  -- seen from the container, no rule is broken
  none_in_container : (fault : Fault) → ¬ IsContainerFault (names_in raw) raw raw.container fault
  none_in_container fault broken = never (fault_at fault.rule (Member (codes "EntityContainer") ∷ fault.place))
      (inl (record { rest = fault.place; reached = refl; holds = broken }))

  -- V14: an element type
  pub element_concrete : (i : ℕ) (set : RawSet) → At raw.container.sets i set → (t : ℕ) → (names_in raw).type_named set.element ≡ Some t → ¬ (¬ HasConcrete (names_in raw) raw t)
  element_concrete i set here t is lacks =
      none_in_container (fault_at ConcreteType (Member (codes "EntitySet") ∷ Item i ∷ Member (codes "EntityType") ∷ []))
      (inl (in_list (IsElementFault (names_in raw) raw) (codes "EntitySet") raw.container.sets i set ConcreteType (Member (codes "EntityType") ∷ []) here
      (let P : Option ℕ → Type 0 = λ found. LacksConcrete (names_in raw) raw found in subst P (sym is) lacks, (refl, refl))))

  -- V14: the type of an end
  pub end_concrete : (i : ℕ) (association : RawAssociation) → At raw.associations i association → IsNamed (names_in raw) raw i
      → (k : ℕ) (end : RawEnd) → At association.ends k end → (t : ℕ) → (names_in raw).type_named end.ty ≡ Some t → ¬ (¬ HasConcrete (names_in raw) raw t)
  end_concrete i association here named k end at t is lacks =
      never (fault_at ConcreteType (Member (codes "Association") ∷ Item i ∷ Member (codes "End") ∷ Item k ∷ Member (codes "Type") ∷ []))
      (inr (in_list (IsEndsFault (names_in raw) raw) (codes "Association") raw.associations i association ConcreteType (Member (codes "End") ∷ Item k ∷ Member (codes "Type") ∷ []) here (
        named,
        in_list (IsEndTypeFault (names_in raw) raw) (codes "End") association.ends k end ConcreteType (Member (codes "Type") ∷ []) at
            (let P : Option ℕ → Type 0 = λ found. LacksConcrete (names_in raw) raw found in subst P (sym is) lacks, (refl, refl)),
      )))

  module _ (i : ℕ) (set : RawAssociationSet) (here : At raw.container.association_sets i set) where
    -- seen from an association set, none is broken
    none_in_set : (fault : Fault) → ¬ IsSetFault (names_in raw) raw i set fault
    none_in_set fault broken = none_in_container (fault_at fault.rule (Member (codes "AssociationSet") ∷ Item i ∷ fault.place))
        (inr (in_list (IsSetFault (names_in raw) raw) (codes "AssociationSet") raw.container.association_sets i set fault.rule fault.place here broken))

    -- V19
    pub not_on_circle : ¬ IsOnCircle (names_in raw) raw set
    not_on_circle circle = none_in_set (fault_at Arrows []) (inr (inr (inl (circle, (refl, refl)))))

    module _ (association : RawAssociation) (is : association_of (names_in raw) raw set.association ≡ Some association) where
      -- V15
      pub roles_once : HoldsEachOnce (map (λ end. end.role) association.ends) (map (λ end. end.role) set.ends)
      roles_once = has_each (map (λ end. end.role) association.ends) (map (λ end. end.role) set.ends) (λ other.
          let P : Option RawAssociation → Type 0 = λ found. MatchOption found ⊥ (λ association. ¬ HoldsEachOnce (map (λ end. end.role) association.ends) (map (λ end. end.role) set.ends)) in
          none_in_set (fault_at EndRoles (Member (codes "End") ∷ [])) (inl (subst P (sym is) other, (refl, refl))))

      -- V20
      pub no_other_type : ¬ Any (HasOtherType (names_in raw) raw association) set.ends
      no_other_type other =
          let P : Option RawAssociation → Type 0 = λ found. MatchOption found ⊥ (λ association. Any (HasOtherType (names_in raw) raw association) set.ends) in
          none_in_set (fault_at EndType (Member (codes "End") ∷ [])) (inr (inr (inr (subst P (sym is) other, (refl, refl)))))

      -- V18
      pub dependent_element : (constraint : RawConstraint) → association.constraint ≡ Some constraint → HasKeyProp (names_in raw) raw association constraint.dependent
          → element_of_role (names_in raw) raw set constraint.dependent.role ≡ type_of_role (names_in raw) raw association constraint.dependent.role
      dependent_element constraint constrained by_key =
          same_places (element_of_role (names_in raw) raw set constraint.dependent.role) (type_of_role (names_in raw) raw association constraint.dependent.role) (λ other.
          let Q : Option RawConstraint → Type 0 = λ found. MatchOption found ⊥ (λ constraint. HasOtherDependent (names_in raw) raw set association constraint) in
          let P : Option RawAssociation → Type 0 = λ found. MatchOption found ⊥ (λ association. MatchOption association.constraint ⊥ (HasOtherDependent (names_in raw) raw set association)) in
          none_in_set (fault_at DependentKey []) (inr (inl (subst P (sym is) (subst Q (sym constrained) (by_key, other)), (refl, refl)))))
