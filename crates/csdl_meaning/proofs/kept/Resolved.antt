-- What V7 gives of sets and associations, where it is kept: what their references and names stand for.
use Rattle.std.proofs.Common.{◌≡◌, inl, inr, ℕ, List, [], ◌∷◌, Option, Some, codes, refl, sym, subst}
use Rattle.std.specs.Option.{MatchOption}
use Rattle.emc_base.specs.Lists.{At}
use Rattle.json_form.specs.declared.pointer.Step.{Step}
use Rattle.json_form.specs.declared.pointer.Step.TheVariants.{Item, Member}
use Rattle.layouts.specs.declared.fault.Fault.{Fault}
use Rattle.layouts.specs.declared.rule.Rule.TheVariants.{Resolves}
use Rattle.layouts.specs.Inside.{Under}
use Rattle.layouts.specs.rule_places.Places.{InList}
use Rattle.csdl_names.specs.declared.csdl_lists.raw.RawAssociation.{RawAssociation}
use Rattle.csdl_names.specs.declared.csdl_lists.raw.RawAssociationSet.{RawAssociationSet}
use Rattle.csdl_names.specs.declared.csdl_lists.raw.RawConstraint.{RawConstraint}
use Rattle.csdl_names.specs.declared.csdl_lists.raw.RawEnd.{RawEnd}
use Rattle.csdl_names.specs.declared.csdl_lists.raw.RawModel.{RawModel}
use Rattle.csdl_names.specs.declared.csdl_lists.raw.RawRole.{RawRole}
use Rattle.csdl_names.specs.declared.csdl_lists.raw.RawSet.{RawSet}
use Rattle.csdl_names.specs.declared.csdl_lists.raw.RawSetEnd.{RawSetEnd}
use Rattle.csdl_names.specs.csdl_lists.References.{names_in}
use Rattle.csdl_names.specs.Unresolved.{IsUnresolved, IsUnresolvedInAssociation, IsUnresolvedInAssociationSet, IsUnresolvedInConstraint, IsUnresolvedInContainer, IsUnresolvedInEnd, IsUnresolvedInRole, IsUnresolvedInSet, IsUnresolvedInSetEnd, IsUnresolvedProp, LacksProp, end_of_role, type_of_role}
use Rattle.layouts.proofs.rule_places.FaultPlaces.{fault_at, in_list}
use Rattle.groupings.proofs.name_places.Finds.{there_is}

module _ (raw : RawModel) (never : (fault : Fault) → ¬ IsUnresolved raw fault) where
  -- seen from the container, everything resolves
  none_in_container : (fault : Fault) → ¬ IsUnresolvedInContainer (names_in raw) raw raw.container fault
  none_in_container fault broken = never (fault_at fault.rule (Member (codes "EntityContainer") ∷ fault.place))
      (inl (record { rest = fault.place; reached = refl; holds = broken }))

  -- the element type of a set is found
  pub element_found : (i : ℕ) (set : RawSet) → At raw.container.sets i set → (t : ℕ) × ((names_in raw).type_named set.element ≡ Some t)
  element_found i set here = there_is ((names_in raw).type_named set.element) (λ none.
      none_in_container (fault_at Resolves (Member (codes "EntitySet") ∷ Item i ∷ Member (codes "EntityType") ∷ []))
      (inl (in_list (IsUnresolvedInSet (names_in raw) raw) (codes "EntitySet") raw.container.sets i set Resolves (Member (codes "EntityType") ∷ []) here (none, (refl, refl)))))

  -- seen from an association set, too
  none_in_set : (i : ℕ) (set : RawAssociationSet) → At raw.container.association_sets i set → (fault : Fault) → ¬ IsUnresolvedInAssociationSet (names_in raw) raw i set fault
  none_in_set i set here fault broken = none_in_container (fault_at fault.rule (Member (codes "AssociationSet") ∷ Item i ∷ fault.place))
      (inr (in_list (IsUnresolvedInAssociationSet (names_in raw) raw) (codes "AssociationSet") raw.container.association_sets i set fault.rule fault.place here broken))

  -- the set at an end of an association set is found
  pub set_found : (i : ℕ) (set : RawAssociationSet) → At raw.container.association_sets i set → (k : ℕ) (end : RawSetEnd) → At set.ends k end
      → (s : ℕ) × ((names_in raw).set_named end.set ≡ Some s)
  set_found i set here k end at = there_is ((names_in raw).set_named end.set) (λ none.
      none_in_set i set here (fault_at Resolves (Member (codes "End") ∷ Item k ∷ Member (codes "EntitySet") ∷ []))
      (inr (in_list (IsUnresolvedInSetEnd (names_in raw) raw set) (codes "End") set.ends k end Resolves (Member (codes "EntitySet") ∷ []) at (inr (none, (refl, refl))))))

  module _ (i : ℕ) (association : RawAssociation) (here : At raw.associations i association) where
    -- and from an association
    none_in_association : (fault : Fault) → ¬ IsUnresolvedInAssociation (names_in raw) raw i association fault
    none_in_association fault broken = never (fault_at fault.rule (Member (codes "Association") ∷ Item i ∷ fault.place))
        (inr (inr (in_list (IsUnresolvedInAssociation (names_in raw) raw) (codes "Association") raw.associations i association fault.rule fault.place here broken)))

    -- the type of an end is found
    pub type_found : (k : ℕ) (end : RawEnd) → At association.ends k end → (t : ℕ) × ((names_in raw).type_named end.ty ≡ Some t)
    type_found k end at = there_is ((names_in raw).type_named end.ty) (λ none.
        none_in_association (fault_at Resolves (Member (codes "End") ∷ Item k ∷ Member (codes "Type") ∷ []))
        (inl (in_list (IsUnresolvedInEnd (names_in raw) raw) (codes "End") association.ends k end Resolves (Member (codes "Type") ∷ []) at (none, (refl, refl)))))

    module _ (constraint : RawConstraint) (is : association.constraint ≡ Some constraint) where
      -- and from a constraint
      none_in_constraint : (fault : Fault) → ¬ IsUnresolvedInConstraint (names_in raw) raw association constraint fault
      none_in_constraint fault broken = none_in_association (fault_at fault.rule (Member (codes "ReferentialConstraint") ∷ fault.place))
          (inr (let P : Option RawConstraint → Type 0 = λ found. MatchOption found ⊥ (λ constraint. InConstraint constraint) in
          subst P (sym is) (record { rest = fault.place; reached = refl; holds = broken })))
        where
          InConstraint : RawConstraint → Type 0
          InConstraint constraint = Under (Member (codes "ReferentialConstraint")) (IsUnresolvedInConstraint (names_in raw) raw association constraint)
              (fault_at fault.rule (Member (codes "ReferentialConstraint") ∷ fault.place))

      -- from its sides
      none_in_principal : (fault : Fault) → ¬ IsUnresolvedInRole (names_in raw) raw association constraint.principal fault
      none_in_principal fault broken = none_in_constraint (fault_at fault.rule (Member (codes "Principal") ∷ fault.place))
          (inl (record { rest = fault.place; reached = refl; holds = broken }))

      none_in_dependent : (fault : Fault) → ¬ IsUnresolvedInRole (names_in raw) raw association constraint.dependent fault
      none_in_dependent fault broken = none_in_constraint (fault_at fault.rule (Member (codes "Dependent") ∷ fault.place))
          (inr (record { rest = fault.place; reached = refl; holds = broken }))

      -- the end of a side is found
      end_found : (side : RawRole) → ((fault : Fault) → ¬ IsUnresolvedInRole (names_in raw) raw association side fault) → (end : RawEnd) × (end_of_role association side.role ≡ Some end)
      end_found side none = there_is (end_of_role association side.role) (λ missing. none (fault_at Resolves (Member (codes "Role") ∷ [])) (inl (missing, (refl, refl))))

      pub principal_end_found : (end : RawEnd) × (end_of_role association constraint.principal.role ≡ Some end)
      principal_end_found = end_found constraint.principal none_in_principal

      pub dependent_end_found : (end : RawEnd) × (end_of_role association constraint.dependent.role ≡ Some end)
      dependent_end_found = end_found constraint.dependent none_in_dependent

      -- a property of a side isn't lacking in the type that stands there
      not_lacking : (side : RawRole) → ((fault : Fault) → ¬ IsUnresolvedInRole (names_in raw) raw association side fault) → (t : ℕ) → type_of_role (names_in raw) raw association side.role ≡ Some t
          → (k : ℕ) (name : List ℕ) → At side.props k name → ¬ LacksProp (names_in raw) raw name t
      not_lacking side none t found k name at lacks = none (fault_at Resolves place)
          (inr (let P : Option ℕ → Type 0 = λ found. MatchOption found ⊥ (λ type. InList (codes "PropertyRef") (IsUnresolvedProp (names_in raw) raw type) side.props (fault_at Resolves place)) in
          subst P (sym found) (in_list (IsUnresolvedProp (names_in raw) raw t) (codes "PropertyRef") side.props k name Resolves [] at (lacks, (refl, refl)))))
        where
          place : List Step
          place = Member (codes "PropertyRef") ∷ Item k ∷ []

      pub principal_has : (t : ℕ) → type_of_role (names_in raw) raw association constraint.principal.role ≡ Some t
          → (k : ℕ) (name : List ℕ) → At constraint.principal.props k name → ¬ LacksProp (names_in raw) raw name t
      principal_has = not_lacking constraint.principal none_in_principal

      pub dependent_has : (t : ℕ) → type_of_role (names_in raw) raw association constraint.dependent.role ≡ Some t
          → (k : ℕ) (name : List ℕ) → At constraint.dependent.props k name → ¬ LacksProp (names_in raw) raw name t
      dependent_has = not_lacking constraint.dependent none_in_dependent
