-- When the two lists of a constraint don't match.
-- Source: CSDL version 3, ReferentialConstraint, Principal and Dependent.
use Rattle.std.specs.Prelude.{◌≡◌, ◌≢◌, ◌⊎◌, ℕ, List, [], ◌∷◌, map, Option, Some, codes, slice_get, Any, MatchOption}
use Rattle.json_form.specs.declared.pointer.Step.TheVariants.{Member}
use Rattle.layouts.specs.declared.fault.Fault.{Fault}
use Rattle.layouts.specs.declared.rule.Rule.TheVariants.{Constraint}
use Rattle.layouts.specs.rule_places.Places.{IsAt, InList}
use Rattle.csdl_names.specs.declared.csdl_lists.raw.RawAssociation.{RawAssociation}
use Rattle.csdl_names.specs.declared.csdl_lists.raw.RawAssociationSet.{RawAssociationSet}
use Rattle.csdl_names.specs.declared.csdl_lists.raw.RawConstraint.{RawConstraint}
use Rattle.csdl_names.specs.declared.csdl_lists.raw.RawModel.{RawModel}
use Rattle.csdl_names.specs.csdl_lists.References.{Names, names_in}
use Rattle.csdl_names.specs.SetRoles.{element_of_role}
use Rattle.csdl_names.specs.Unresolved.{type_of_role}
use Rattle.csdl_types.specs.declared.simple.PropType.{PropType}
use Rattle.csdl_types.specs.Simple.{types_by}
use Rattle.emc_base.specs.Lists.{AreApart, HoldsEachOnce}
use Rattle.csdl_associations.specs.csdl_constraints.Multiplicities.{IsMultFault}
use Rattle.csdl_associations.specs.csdl_constraints.Sides.{IsNamed, IsWholeKey, types_of_side}

module _ (names : Names) (model : RawModel) where
  -- the set has at the principal's role another element type than the end of the association has
  abbrev pub IsOfOther : RawAssociation → RawConstraint → RawAssociationSet → Type 0
  IsOfOther association constraint set =
      let role = constraint.principal.role in element_of_role names model set role ≢ type_of_role names model association role

  -- an association set of the association at a place has, at the role of the principal, a set of another element type than the end
  abbrev pub HasOtherElement : ℕ → RawAssociation → RawConstraint → Type 0
  HasOtherElement a association constraint =
      Any (λ set. (names.association_named set.association ≡ Some a) × IsOfOther association constraint set) model.container.association_sets

  -- the set is one of the association at this place, and has another element type there
  abbrev pub MarksOther : RawAssociationSet → ℕ → Type 0
  MarksOther set a =
      (names.association_named set.association ≡ Some a)
      × MatchOption (slice_get model.associations a) ⊥ (λ association. MatchOption association.constraint ⊥ (λ constraint. IsOfOther association constraint set))

  -- The roles of the constraint aren't the two of the association, its principal list isn't the whole key, each once, a dependent property
  -- stands twice, the two lists differ in length or in what the Types of two matched properties name, or else this is so.
  abbrev pub BreaksListsOr : (List ℕ → Option PropType) → RawAssociation → RawConstraint → Type 0 → Type 0
  BreaksListsOr typing association constraint Other =
      (¬ HoldsEachOnce (map (λ end. end.role) association.ends) (constraint.principal.role ∷ constraint.dependent.role ∷ []))
      ⊎ (¬ IsWholeKey names model association constraint.principal)
      ⊎ (¬ AreApart constraint.dependent.props)
      ⊎ (types_of_side names model typing association constraint.principal ≢ types_of_side names model typing association constraint.dependent)
      ⊎ Other

  -- the lists don't match, or an association set has another element type at the principal's role
  abbrev pub BreaksLists : ℕ → RawAssociation → RawConstraint → Type 0
  BreaksLists a association constraint = BreaksListsOr (types_by names) association constraint (HasOtherElement a association constraint)

  -- V17, seen from the association at a place, which some association set names
  abbrev pub IsConstraintFault : ℕ → RawAssociation → Fault → Type 0
  IsConstraintFault a association fault =
      (IsNamed names model a × MatchOption association.constraint ⊥ (BreaksLists a association)) × IsAt Constraint (Member (codes "ReferentialConstraint") ∷ []) fault

  -- V16 and V17, seen from the association at a place
  abbrev pub IsAssociationFault : ℕ → RawAssociation → Fault → Type 0
  IsAssociationFault a association fault = IsMultFault names model a association fault ⊎ IsConstraintFault a association fault

-- the lists don't match in a model where names stand for what they do there, or else this is so
abbrev pub BreaksListsIn : RawModel → (List ℕ → Option PropType) → RawAssociation → RawConstraint → Type 0 → Type 0
BreaksListsIn model = BreaksListsOr (names_in model) model

-- V16 and V17
abbrev pub BreaksConstraintRules : RawModel → Fault → Type 0
BreaksConstraintRules model = InList (codes "Association") (IsAssociationFault (names_in model) model) model.associations
