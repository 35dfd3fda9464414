-- V15, V18 and V20: the ends of an association set fit those of its association.
-- Source: CSDL version 3, AssociationSet, End, Association and ReferentialConstraint.
use Rattle.std.specs.Prelude.{◌≢◌, ℕ, [], ◌∷◌, map, codes, Any, MatchOption}
use Rattle.std.specs.Option.{option_and_then}
use Rattle.json_form.specs.declared.pointer.Step.TheVariants.{Member}
use Rattle.layouts.specs.declared.fault.Fault.{Fault}
use Rattle.layouts.specs.declared.rule.Rule.TheVariants.{DependentKey, EndRoles, EndType}
use Rattle.layouts.specs.rule_places.Places.{IsAt}
use Rattle.graphs.specs.base_chains.Chains.{IsUpFrom}
use Rattle.csdl_names.specs.declared.csdl_lists.raw.RawAssociation.{RawAssociation}
use Rattle.csdl_names.specs.declared.csdl_lists.raw.RawAssociationSet.{RawAssociationSet}
use Rattle.csdl_names.specs.declared.csdl_lists.raw.RawConstraint.{RawConstraint}
use Rattle.csdl_names.specs.declared.csdl_lists.raw.RawModel.{RawModel}
use Rattle.csdl_names.specs.declared.csdl_lists.raw.RawSetEnd.{RawSetEnd}
use Rattle.csdl_names.specs.csdl_lists.References.{Names, base_of}
use Rattle.csdl_names.specs.SetRoles.{element_of, element_of_role}
use Rattle.csdl_names.specs.Unresolved.{association_of, type_of_role}
use Rattle.emc_base.specs.Lists.{HoldsEachOnce}
use Rattle.csdl_associations.specs.csdl_constraints.Sides.{HasKeyProp}

module _ (names : Names) (model : RawModel) where
  -- of the association that an association set names, where it is found
  abbrev pub OfAssociation : RawAssociationSet → (RawAssociation → Type 0) → Type 0
  OfAssociation set P = MatchOption (association_of names model set.association) ⊥ P

  -- of that association and its constraint, where it has one
  abbrev pub OfConstraint : RawAssociationSet → (RawAssociation → RawConstraint → Type 0) → Type 0
  OfConstraint set P = OfAssociation set (λ association. MatchOption association.constraint ⊥ (P association))

  -- the ends don't name each role of the association once
  abbrev pub HasOtherRoles : RawAssociationSet → Type 0
  HasOtherRoles set = OfAssociation set (λ association. ¬ HoldsEachOnce (map (λ end. end.role) association.ends) (map (λ end. end.role) set.ends))

  -- V15
  abbrev pub IsRolesFault : ℕ → RawAssociationSet → Fault → Type 0
  IsRolesFault i set fault = HasOtherRoles set × IsAt EndRoles (Member (codes "End") ∷ []) fault

  -- a key property is among the dependent ones, and the dependent type isn't the element type of its set
  abbrev pub HasOtherDependent : RawAssociationSet → RawAssociation → RawConstraint → Type 0
  HasOtherDependent set association constraint =
      let role = constraint.dependent.role in
      HasKeyProp names model association constraint.dependent × (element_of_role names model set role ≢ type_of_role names model association role)

  -- V18
  abbrev pub IsDependentFault : ℕ → RawAssociationSet → Fault → Type 0
  IsDependentFault i set fault = OfConstraint set (HasOtherDependent set) × IsAt DependentKey [] fault

  -- the type of the association's end is found, and the element type of the set that stands there, and it isn't that or derived from it
  abbrev pub HasOtherType : RawAssociation → RawSetEnd → Type 0
  HasOtherType association end =
      MatchOption (type_of_role names model association end.role) ⊥ (λ i. MatchOption (option_and_then (element_of names model) (names.set_named end.set)) ⊥ (λ j. ¬ IsUpFrom (base_of names model) i j))

  -- V20
  abbrev pub IsTypesFault : ℕ → RawAssociationSet → Fault → Type 0
  IsTypesFault i set fault = OfAssociation set (λ association. Any (HasOtherType association) set.ends) × IsAt EndType (Member (codes "End") ∷ []) fault
