-- What the parts of the answer say: which associations are marked, and what is wrong with one by its marks.
use Rattle.std.specs.Prelude.{◌⊎◌, ◌∷◌, [], ℕ, List, Bool, true, Any, MatchOption, codes, length, slice_get}
use Rattle.emc_base.specs.Lists.{At}
use Rattle.json_form.specs.declared.pointer.Step.TheVariants.{Member}
use Rattle.layouts.specs.declared.fault.Fault.{Fault}
use Rattle.layouts.specs.declared.rule.Rule.TheVariants.{Constraint, Multiplicities}
use Rattle.layouts.specs.rule_places.Places.{IsAt}
use Rattle.csdl_names.specs.declared.csdl_lists.raw.RawAssociation.{RawAssociation}
use Rattle.csdl_names.specs.declared.csdl_lists.raw.RawConstraint.{RawConstraint}
use Rattle.csdl_names.specs.declared.csdl_lists.raw.RawModel.{RawModel}
use Rattle.csdl_names.specs.csdl_lists.References.{names_in}
use Rattle.csdl_types.specs.Simple.{types_by}
use Rattle.csdl_associations.specs.csdl_constraints.Constraints.{BreaksListsIn, MarksOther}
use Rattle.csdl_associations.specs.csdl_constraints.Marks.{AreMarks}
use Rattle.csdl_associations.specs.csdl_constraints.Multiplicities.{BreaksConstraintMults, BreaksMults, IsLooseDependent}
use Rattle.csdl_associations.specs.csdl_constraints.Sides.{IsNamed}

module _ (model : RawModel) where
  -- of each association whether an association set names it
  abbrev pub AreNamed : List Bool → Type 0
  AreNamed = AreMarks (IsNamed (names_in model) model) (length model.associations)

  -- of each association whether an association set has another element type at the role of its principal
  abbrev pub AreOfOther : List Bool → Type 0
  AreOfOther = AreMarks (λ a. Any (λ set. MarksOther (names_in model) model set a) model.container.association_sets) (length model.associations)

  -- with this constraint the association has multiplicities that aren't allowed
  abbrev pub BreaksConstraintMultsIn : RawAssociation → RawConstraint → Type 0
  BreaksConstraintMultsIn = BreaksConstraintMults (names_in model) model

  -- with this constraint there is at most one dependent, and the dependent properties aren't the whole key of their type
  abbrev pub IsLooseDependentIn : RawAssociation → RawConstraint → Type 0
  IsLooseDependentIn = IsLooseDependent (names_in model) model

  -- the association has a constraint whose lists don't match, or else this is so
  abbrev pub IsUnlike : RawAssociation → Type 0 → Type 0
  IsUnlike association Other = MatchOption association.constraint ⊥ (λ constraint. BreaksListsIn model (types_by (names_in model)) association constraint Other)

  -- what is wrong with an association that some set names
  abbrev pub IsFaultBy : RawAssociation → Type 0 → Fault → Type 0
  IsFaultBy association Other fault =
      (BreaksMults (names_in model) model association × IsAt Multiplicities (Member (codes "End") ∷ []) fault)
      ⊎ (IsUnlike association Other × IsAt Constraint (Member (codes "ReferentialConstraint") ∷ []) fault)

  -- what is wrong with the association at a place, by the marks of those that are named and of those of which a set has another element type
  abbrev pub IsMarkedFault : List Bool → List Bool → ℕ → Fault → Type 0
  IsMarkedFault named others a fault =
      At named a true × MatchOption (slice_get model.associations a) ⊥ (λ association. IsFaultBy association (At others a true) fault)
