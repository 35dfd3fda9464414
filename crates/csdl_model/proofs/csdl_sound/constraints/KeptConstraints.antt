-- What V16 and V17 give of an association that some association set names, where they are kept.
use Rattle.std.proofs.Common.{◌≡◌, ◌≢◌, inl, inr, ℕ, [], ◌∷◌, map, Option, Some, None, codes, refl, sym, subst}
use Rattle.std.specs.Option.{MatchOption}
use Rattle.emc_base.specs.Lists.{At, AreApart, HoldsEachOnce}
use Rattle.json_form.specs.declared.pointer.Step.TheVariants.{Item, Member}
use Rattle.layouts.specs.declared.fault.Fault.{Fault}
use Rattle.layouts.specs.declared.rule.Rule.TheVariants.{Constraint, Multiplicities}
use Rattle.csdl_names.specs.declared.csdl_lists.raw.RawAssociation.{RawAssociation}
use Rattle.csdl_names.specs.declared.csdl_lists.raw.RawConstraint.{RawConstraint}
use Rattle.csdl_names.specs.declared.csdl_lists.raw.RawModel.{RawModel}
use Rattle.csdl_names.specs.csdl_lists.References.{names_in}
use Rattle.csdl_types.specs.Simple.{types_by}
use Rattle.csdl_associations.specs.csdl_constraints.Constraints.{BreaksConstraintRules, BreaksLists, HasOtherElement, IsAssociationFault}
use Rattle.csdl_associations.specs.csdl_constraints.Multiplicities.{BreaksConstraintMults, BreaksFreeMults}
use Rattle.csdl_associations.specs.csdl_constraints.Sides.{IsNamed, IsWholeKey, types_of_side}
use Rattle.layouts.proofs.rule_places.FaultPlaces.{fault_at, in_list}
use Rattle.emc_base.proofs.Stable.{has_each}

module _ (raw : RawModel) (never : (fault : Fault) → ¬ BreaksConstraintRules raw fault) (i : ℕ) (association : RawAssociation) (here : At raw.associations i association) (named : IsNamed (names_in raw) raw i) where
  -- seen from the association, none is broken
  none_in : (fault : Fault) → ¬ IsAssociationFault (names_in raw) raw i association fault
  none_in fault broken = never (fault_at fault.rule (Member (codes "Association") ∷ Item i ∷ fault.place))
      (in_list (IsAssociationFault (names_in raw) raw) (codes "Association") raw.associations i association fault.rule fault.place here broken)

  -- V16, without a constraint
  pub free_mults : association.constraint ≡ None → ¬ BreaksFreeMults association.ends
  free_mults none broken = none_in (fault_at Multiplicities (Member (codes "End") ∷ []))
      (inl ((named, (let P : Option RawConstraint → Type 0 = λ found. MatchOption found (BreaksFreeMults association.ends) (BreaksConstraintMults (names_in raw) raw association) in subst P (sym none) broken)), (refl, refl)))

  module _ (constraint : RawConstraint) (is : association.constraint ≡ Some constraint) where
    -- V16, with one
    pub constraint_mults : ¬ BreaksConstraintMults (names_in raw) raw association constraint
    constraint_mults broken = none_in (fault_at Multiplicities (Member (codes "End") ∷ []))
        (inl ((named, (let P : Option RawConstraint → Type 0 = λ found. MatchOption found (BreaksFreeMults association.ends) (BreaksConstraintMults (names_in raw) raw association) in subst P (sym is) broken)), (refl, refl)))

    -- V17
    none_in_lists : ¬ BreaksLists (names_in raw) raw i association constraint
    none_in_lists broken = none_in (fault_at Constraint (Member (codes "ReferentialConstraint") ∷ []))
        (inr ((named, (let P : Option RawConstraint → Type 0 = λ found. MatchOption found ⊥ (BreaksLists (names_in raw) raw i association) in subst P (sym is) broken)), (refl, refl)))

    -- its roles are those of the association
    pub two_roles : HoldsEachOnce (map (λ end. end.role) association.ends) (constraint.principal.role ∷ constraint.dependent.role ∷ [])
    two_roles = has_each (map (λ end. end.role) association.ends) (constraint.principal.role ∷ constraint.dependent.role ∷ []) (λ other. none_in_lists (inl other))

    -- the principal list is the whole key
    pub principal_key : ¬ (¬ IsWholeKey (names_in raw) raw association constraint.principal)
    principal_key other = none_in_lists (inr (inl other))

    -- no dependent property stands twice
    pub dependents_apart : AreApart constraint.dependent.props
    dependents_apart = λ k l d before within same. none_in_lists (inr (inr (inl (λ apart. apart k l d before within same))))

    -- the two lists match
    pub types_match : ¬ (types_of_side (names_in raw) raw (types_by (names_in raw)) association constraint.principal ≢ types_of_side (names_in raw) raw (types_by (names_in raw)) association constraint.dependent)
    types_match other = none_in_lists (inr (inr (inr (inl other))))

    -- each association set has the principal's type at its role
    pub no_other_element : ¬ HasOtherElement (names_in raw) raw i association constraint
    no_other_element other = none_in_lists (inr (inr (inr (inr other))))
