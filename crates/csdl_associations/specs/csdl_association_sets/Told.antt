-- What is known of types, of associations and of association sets, by their places.
-- Source: CSDL version 3, EntityType, Association, ReferentialConstraint and AssociationSet.
use Rattle.std.specs.Prelude.{◌≡◌, ◌≢◌, ◌⊎◌, ◌↔◌, ℕ, List, Bool, true, IsTrue, codes, length, Any, Option, Some, None}
use Rattle.std.specs.Option.{option_and_then}
use Rattle.emc_base.specs.Lists.{At}
use Rattle.layouts.specs.declared.fault.Fault.{Fault}
use Rattle.layouts.specs.rule_places.Places.{InList}
use Rattle.graphs.specs.base_chains.Chains.{base_at}
use Rattle.graphs.specs.declared.arrow_cycles.arrow.Arrow.{Arrow}
use Rattle.csdl_names.specs.declared.csdl_lists.raw.RawAssociation.{RawAssociation}
use Rattle.csdl_names.specs.declared.csdl_lists.raw.RawAssociationSet.{RawAssociationSet}
use Rattle.csdl_names.specs.declared.csdl_lists.raw.RawConstraint.{RawConstraint}
use Rattle.csdl_names.specs.declared.csdl_lists.raw.RawModel.{RawModel}
use Rattle.csdl_names.specs.declared.csdl_lists.raw.RawSetEnd.{RawSetEnd}
use Rattle.csdl_names.specs.csdl_lists.References.{base_of, names_in}
use Rattle.csdl_names.specs.SetRoles.{element_of, element_of_role}
use Rattle.csdl_names.specs.Unresolved.{association_of, type_of_role}
use Rattle.csdl_associations.specs.csdl_constraints.Sides.{HasKeyProp, HasNullable}
use Rattle.csdl_associations.specs.csdl_constraints.Told.{Beside}
use Rattle.csdl_associations.specs.csdl_association_sets.Concrete.{HasConcrete, IsEndsFault}
use Rattle.csdl_associations.specs.csdl_association_sets.SetArrows.{IsArrowFault, IsArrowOf}
use Rattle.csdl_associations.specs.csdl_association_sets.SetEnds.{HasOtherDependent, HasOtherType, IsDependentFault, IsRolesFault, IsTypesFault, OfAssociation, OfConstraint}
use Rattle.csdl_associations.specs.csdl_association_sets.SetRules.{IsContainerFault, IsSetFault}
use Rattle.csdl_associations.specs.declared.csdl_association_sets.constraints.SetConstraint.{SetConstraint}

module _ (model : RawModel) where
  -- of each type is told whether it, or one below it, isn't abstract
  abbrev pub TellsConcrete : List Bool → Type 0
  TellsConcrete told = (i : ℕ) → (At told i true ↔ HasConcrete (names_in model) model i)

  -- V14 of the ends of associations
  abbrev pub BreaksEnds : Fault → Type 0
  BreaksEnds = InList (codes "Association") (IsEndsFault (names_in model) model) model.associations

  -- V15, V18 and V20 of an association set
  abbrev pub IsEndFault : ℕ → RawAssociationSet → Fault → Type 0
  IsEndFault i set fault =
      IsRolesFault (names_in model) model i set fault
      ⊎ IsDependentFault (names_in model) model i set fault
      ⊎ IsTypesFault (names_in model) model i set fault

  -- V15, V18 and V20 of the association sets
  abbrev pub BreaksEndRules : Fault → Type 0
  BreaksEndRules = InList (codes "AssociationSet") IsEndFault model.container.association_sets

  -- V15, V18, V19 and V20 of them
  abbrev pub BreaksSets : Fault → Type 0
  BreaksSets = InList (codes "AssociationSet") (IsSetFault (names_in model) model) model.container.association_sets

  -- V14 of element types, and the rules on association sets
  abbrev pub BreaksContainer : Fault → Type 0
  BreaksContainer = IsContainerFault (names_in model) model model.container

  -- V19 of the association sets
  abbrev pub BreaksArrows : Fault → Type 0
  BreaksArrows = InList (codes "AssociationSet") (IsArrowFault (names_in model) model) model.container.association_sets

  -- V18 is broken
  abbrev pub BreaksDependent : RawAssociationSet → Type 0
  BreaksDependent set = OfConstraint (names_in model) model set (HasOtherDependent (names_in model) model set)

  -- the element type of the set at this role isn't the type of the association's end
  abbrev pub HasOtherElement : RawAssociationSet → RawAssociation → List ℕ → Type 0
  HasOtherElement set association role = element_of_role (names_in model) model set role ≢ type_of_role (names_in model) model association role

  -- the element type of the entity set at an end of an association set
  abbrev pub element_at : RawSetEnd → Option ℕ
  element_at end = option_and_then (element_of (names_in model) model) ((names_in model).set_named end.set)

  -- V20 is broken
  abbrev pub BreaksTypes : RawAssociationSet → Type 0
  BreaksTypes set = OfAssociation (names_in model) model set (λ association. Any (HasOtherType (names_in model) model association) set.ends)

  -- these are the model that is known of, and what stands above its types
  pub record KnowsEnds (known : RawModel) (bases : List (Option ℕ)) : Type 0 where
    pub same : known ≡ model
    pub based : base_at bases ≡ base_of (names_in model) model
    pub size : length bases ≡ length model.types

  -- the constraint of the association that an association set names
  abbrev pub constraint_of : RawAssociationSet → Option RawConstraint
  constraint_of set = option_and_then (λ association. association.constraint) (association_of (names_in model) model set.association)

  -- this is that association, with its constraint and what is known of its Dependent
  pub record IsKnownOf (set : RawAssociationSet) (known : SetConstraint) : Type 0 where
    pub association : association_of (names_in model) model set.association ≡ Some known.association.now
    pub constraint : known.association.now.constraint ≡ Some known.constraint.now
    pub by_key : IsTrue known.dependent.has_key_prop ↔ HasKeyProp (names_in model) model known.association.now known.constraint.now.dependent
    pub nullable : IsTrue known.dependent.has_nullable ↔ HasNullable (names_in model) model known.association.now known.constraint.now.dependent

  -- what is known of the constraint, where there is one
  abbrev pub KnowsConstraint : RawAssociationSet → Option SetConstraint → Type 0
  KnowsConstraint set None = constraint_of set ≡ None
  KnowsConstraint set (Some known) = IsKnownOf set known

  -- this is the arrow of an association set, if it has one
  abbrev pub IsArrowIn : RawAssociationSet → Option Arrow → Type 0
  IsArrowIn set found = (from to : ℕ) → ((found ≡ Some (record { from = from; to = to })) ↔ IsArrowOf (names_in model) model set from to)

  -- the arrows of association sets, in their order
  abbrev pub AreArrowsOf : List RawAssociationSet → List (Option Arrow) → Type 0
  AreArrowsOf sets arrows = Beside IsArrowIn sets arrows
