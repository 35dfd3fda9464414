-- V24 and V25: a foreign key points to a whole key, and not each column to itself.
-- Source: SSDL version 3, Association and ReferentialConstraint.
use Rattle.std.specs.Prelude.{◌≡◌, ◌⊎◌, ℕ, [], ◌∷◌, MatchOption, codes}
use Rattle.json_form.specs.declared.pointer.Step.TheVariants.{Member}
use Rattle.layouts.specs.declared.fault.Fault.{Fault}
use Rattle.layouts.specs.declared.rule.Rule.TheVariants.{ForeignKey, PointsElsewhere}
use Rattle.layouts.specs.rule_places.Places.{IsAt}
use Rattle.csdl_names.specs.declared.csdl_lists.raw.RawAssociation.{RawAssociation}
use Rattle.csdl_names.specs.declared.csdl_lists.raw.RawConstraint.{RawConstraint}
use Rattle.csdl_names.specs.declared.csdl_lists.raw.RawModel.{RawModel}
use Rattle.csdl_names.specs.csdl_lists.References.{Names}
use Rattle.csdl_names.specs.Unresolved.{type_of_role}
use Rattle.csdl_associations.specs.csdl_constraints.Constraints.{BreaksListsOr}
use Rattle.ssdl_model.specs.ssdl_lists.Columns.{column_type}

module _ (names : Names) (model : RawModel) where
  -- the lists don't match, by the types of columns
  abbrev pub BreaksForeignKey : RawAssociation → RawConstraint → Type 0
  BreaksForeignKey association constraint = BreaksListsOr names model column_type association constraint ⊥

  -- the same of an association, which has no lists where it has no constraint
  abbrev pub IsUnlike : RawAssociation → Type 0
  IsUnlike association = MatchOption association.constraint ⊥ (BreaksForeignKey association)

  -- each column of a type is matched with itself
  abbrev pub PointsToItself : RawAssociation → RawConstraint → Type 0
  PointsToItself association constraint =
      (type_of_role names model association constraint.principal.role ≡ type_of_role names model association constraint.dependent.role)
      × (constraint.principal.props ≡ constraint.dependent.props)

  -- V24, seen from the association
  abbrev pub IsUnlikeFault : RawAssociation → Fault → Type 0
  IsUnlikeFault association fault = IsUnlike association × IsAt ForeignKey (Member (codes "ReferentialConstraint") ∷ []) fault

  -- V25, seen from the association
  abbrev pub IsItselfFault : RawAssociation → Fault → Type 0
  IsItselfFault association fault =
      MatchOption association.constraint ⊥ (PointsToItself association) × IsAt PointsElsewhere (Member (codes "ReferentialConstraint") ∷ []) fault

  -- V24 and V25
  abbrev pub IsForeignKeyFault : ℕ → RawAssociation → Fault → Type 0
  IsForeignKeyFault a association fault = IsUnlikeFault association fault ⊎ IsItselfFault association fault
