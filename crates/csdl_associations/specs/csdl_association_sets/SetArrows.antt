-- V19: the constraints that decide a key don't come round in a circle.
-- Source: CSDL version 3, AssociationSet and ReferentialConstraint; that they don't is the profile's choice: an entity could never be the first.
use Rattle.std.specs.Prelude.{◌≡◌, ◌⊎◌, ℕ, [], Some, Any}
use Rattle.graphs.specs.arrow_cycles.Arrows.{Leads}
use Rattle.layouts.specs.declared.fault.Fault.{Fault}
use Rattle.layouts.specs.declared.rule.Rule.TheVariants.{Arrows}
use Rattle.layouts.specs.rule_places.Places.{IsAt}
use Rattle.csdl_names.specs.declared.csdl_lists.raw.RawAssociation.{RawAssociation}
use Rattle.csdl_names.specs.declared.csdl_lists.raw.RawAssociationSet.{RawAssociationSet}
use Rattle.csdl_names.specs.declared.csdl_lists.raw.RawConstraint.{RawConstraint}
use Rattle.csdl_names.specs.declared.csdl_lists.raw.RawModel.{RawModel}
use Rattle.csdl_names.specs.csdl_lists.References.{Names}
use Rattle.csdl_names.specs.SetRoles.{set_of_role}
use Rattle.csdl_associations.specs.csdl_constraints.Sides.{HasKeyProp, HasNullable}
use Rattle.csdl_associations.specs.csdl_association_sets.SetEnds.{OfConstraint}

module _ (names : Names) (model : RawModel) where
  -- a constraint decides a part of its dependents' key: a property of the key is among the dependent ones, and none of these may be null
  pub record DecidesKey (association : RawAssociation) (constraint : RawConstraint) : Type 0 where
    pub by_key : HasKeyProp names model association constraint.dependent
    pub needed : ¬ HasNullable names model association constraint.dependent

  -- it is the constraint of an association set that has these entity sets at its ends
  pub record LeadsBetween (set : RawAssociationSet) (from to : ℕ) (association : RawAssociation) (constraint : RawConstraint) : Type 0 where
    pub decides : DecidesKey association constraint
    pub dependent : set_of_role names model set constraint.dependent.role ≡ Some from
    pub principal : set_of_role names model set constraint.principal.role ≡ Some to

  -- the association set leads from its dependent set to its principal set
  abbrev pub IsArrowOf : RawAssociationSet → ℕ → ℕ → Type 0
  IsArrowOf set from to = OfConstraint names model set (LeadsBetween set from to)

  -- some association set does
  abbrev pub IsArrow : ℕ → ℕ → Type 0
  IsArrow from to = Any (λ set. IsArrowOf set from to) model.container.association_sets

  -- the association set leads to where it begins, or arrows lead back there
  abbrev pub IsOnCircle : RawAssociationSet → Type 0
  IsOnCircle set = (from to : ℕ) × IsArrowOf set from to × ((from ≡ to) ⊎ Leads IsArrow to from)

  -- V19
  abbrev pub IsArrowFault : ℕ → RawAssociationSet → Fault → Type 0
  IsArrowFault i set fault = IsOnCircle set × IsAt Arrows [] fault
