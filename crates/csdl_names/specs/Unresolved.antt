-- V7: a name resolves to nothing of the sort that is needed. It is asked of a name only where what it is looked up in is found: of a role
-- only where the association is, of a property only where the type is, and each type above it.
-- Source: CSDL version 3, the references and names of EntitySet, AssociationSet, EntityType, Key, NavigationProperty, Association and
-- ReferentialConstraint.
use Rattle.layouts.specs.rule_places.Names.{NamesNothing}
use Rattle.std.specs.Prelude.{◌≡◌, ◌⊎◌, ℕ, List, [], ◌∷◌, codes, Any, Option, Some, None, MatchOption, find, option_and_then, slice_get}
use Rattle.std.specs.Str.{bytes_eq}
use Rattle.emc_base.specs.Lists.{At}
use Rattle.json_form.specs.declared.pointer.Step.TheVariants.{Member}
use Rattle.layouts.specs.declared.fault.Fault.{Fault}
use Rattle.layouts.specs.declared.rule.Rule.TheVariants.{Resolves}
use Rattle.layouts.specs.Inside.{Under}
use Rattle.layouts.specs.rule_places.Places.{IsAt, InList}
use Rattle.csdl_names.specs.declared.csdl_lists.raw.RawAssociation.{RawAssociation}
use Rattle.csdl_names.specs.declared.csdl_lists.raw.RawAssociationSet.{RawAssociationSet}
use Rattle.csdl_names.specs.declared.csdl_lists.raw.RawConstraint.{RawConstraint}
use Rattle.csdl_names.specs.declared.csdl_lists.raw.RawContainer.{RawContainer}
use Rattle.csdl_names.specs.declared.csdl_lists.raw.RawEnd.{RawEnd}
use Rattle.csdl_names.specs.declared.csdl_lists.raw.RawModel.{RawModel}
use Rattle.csdl_names.specs.declared.csdl_lists.raw.RawNav.{RawNav}
use Rattle.csdl_names.specs.declared.csdl_lists.raw.RawRole.{RawRole}
use Rattle.csdl_names.specs.declared.csdl_lists.raw.RawSet.{RawSet}
use Rattle.csdl_names.specs.declared.csdl_lists.raw.RawSetEnd.{RawSetEnd}
use Rattle.csdl_names.specs.declared.csdl_lists.raw.RawType.{RawType}
use Rattle.csdl_names.specs.csdl_lists.References.{Names, base_of, names_in}

-- the type declares a property of this name
abbrev pub Declares : RawType → List ℕ → Type 0
Declares type name = Any (λ prop. prop.name ≡ name) type.props

-- the end of an association that has this role
abbrev pub end_of_role : RawAssociation → List ℕ → Option RawEnd
end_of_role association role = find (λ end. bytes_eq role end.role) association.ends

module _ (names : Names) (model : RawModel) where
  -- The type lacks the property: it doesn't declare it, and it has no base type, or its base type is found and lacks it. Where a base type
  -- isn't found, or the base types come round in a circle, nothing is said.
  pub data LacksProp (name : List ℕ) : ℕ → Type 0 where
    root : (i : ℕ) (type : RawType) → At model.types i type → type.base ≡ None → ¬ Declares type name → LacksProp name i
    derived : (i base : ℕ) (type : RawType) → At model.types i type → base_of names model i ≡ Some base → ¬ Declares type name → LacksProp name base
        → LacksProp name i

  -- the association itself that a reference names
  abbrev pub association_of : List ℕ → Option RawAssociation
  association_of reference = option_and_then (slice_get model.associations) (names.association_named reference)

  -- the reference names an association, and it has no end of this role
  abbrev pub LacksRole : List ℕ → List ℕ → Type 0
  LacksRole reference role = MatchOption (association_of reference) ⊥ (λ association. end_of_role association role ≡ None)

  -- so the rule is broken at the member that has the role
  abbrev pub LacksRoleAt : List ℕ → List ℕ → List ℕ → Fault → Type 0
  LacksRoleAt member reference role fault = LacksRole reference role × IsAt Resolves (Member member ∷ []) fault

  -- an entity set: its element type
  abbrev pub IsUnresolvedInSet : ℕ → RawSet → Fault → Type 0
  IsUnresolvedInSet i set = NamesNothing (names.type_named set.element) (codes "EntityType")

  -- an end of an association set: its role and its entity set
  abbrev pub IsUnresolvedInSetEnd : RawAssociationSet → ℕ → RawSetEnd → Fault → Type 0
  IsUnresolvedInSetEnd set i end fault =
      LacksRoleAt (codes "Role") set.association end.role fault
      ⊎ NamesNothing (names.set_named end.set) (codes "EntitySet") fault

  -- an association set: its association, and its ends
  abbrev pub IsUnresolvedInAssociationSet : ℕ → RawAssociationSet → Fault → Type 0
  IsUnresolvedInAssociationSet i set fault =
      NamesNothing (names.association_named set.association) (codes "Association") fault
      ⊎ InList (codes "End") (IsUnresolvedInSetEnd set) set.ends fault

  -- a navigation property: its association, and its two roles
  abbrev pub IsUnresolvedInNav : ℕ → RawNav → Fault → Type 0
  IsUnresolvedInNav i nav fault =
      NamesNothing (names.association_named nav.relationship) (codes "Relationship") fault
      ⊎ LacksRoleAt (codes "FromRole") nav.relationship nav.from_role fault
      ⊎ LacksRoleAt (codes "ToRole") nav.relationship nav.to_role fault

  -- a name in a list of names of properties of this type
  abbrev pub IsUnresolvedProp : ℕ → ℕ → List ℕ → Fault → Type 0
  IsUnresolvedProp type i name fault = LacksProp name type × IsAt Resolves [] fault

  -- the names of a key
  abbrev pub IsUnresolvedInKey : ℕ → Option (List (List ℕ)) → Fault → Type 0
  IsUnresolvedInKey type key fault = MatchOption key ⊥ (λ names. InList (codes "Key") (IsUnresolvedProp type) names fault)

  -- the base type of a type, where it has one
  abbrev pub IsUnresolvedBase : Option (List ℕ) → Fault → Type 0
  IsUnresolvedBase base fault = MatchOption base ⊥ (λ reference. NamesNothing (names.type_named reference) (codes "BaseType") fault)

  -- a type: its base type, its key, and its navigation properties
  abbrev pub IsUnresolvedInType : ℕ → RawType → Fault → Type 0
  IsUnresolvedInType i type fault =
      IsUnresolvedBase type.base fault
      ⊎ IsUnresolvedInKey i type.key fault
      ⊎ InList (codes "NavigationProperty") IsUnresolvedInNav type.navs fault

  -- an end of an association: its type
  abbrev pub IsUnresolvedInEnd : ℕ → RawEnd → Fault → Type 0
  IsUnresolvedInEnd i end = NamesNothing (names.type_named end.ty) (codes "Type")

  -- the type of the end that has this role, where both are found
  abbrev pub type_of_role : RawAssociation → List ℕ → Option ℕ
  type_of_role association role = option_and_then (λ end. names.type_named end.ty) (end_of_role association role)

  -- the Principal or the Dependent of a constraint: its role, and the names of its properties
  abbrev pub IsUnresolvedInRole : RawAssociation → RawRole → Fault → Type 0
  IsUnresolvedInRole association role fault =
      ((end_of_role association role.role ≡ None) × IsAt Resolves (Member (codes "Role") ∷ []) fault)
      ⊎ MatchOption (type_of_role association role.role) ⊥ (λ type. InList (codes "PropertyRef") (IsUnresolvedProp type) role.props fault)

  -- a constraint, seen from its association
  abbrev pub IsUnresolvedInConstraint : RawAssociation → RawConstraint → Fault → Type 0
  IsUnresolvedInConstraint association constraint fault =
      Under (Member (codes "Principal")) (IsUnresolvedInRole association constraint.principal) fault
      ⊎ Under (Member (codes "Dependent")) (IsUnresolvedInRole association constraint.dependent) fault

  -- an association: the types of its ends, and its constraint
  abbrev pub IsUnresolvedInAssociation : ℕ → RawAssociation → Fault → Type 0
  IsUnresolvedInAssociation i association fault =
      InList (codes "End") IsUnresolvedInEnd association.ends fault
      ⊎ MatchOption association.constraint ⊥ (λ constraint. Under (Member (codes "ReferentialConstraint")) (IsUnresolvedInConstraint association constraint) fault)

  -- a container: its entity sets, and its association sets
  abbrev pub IsUnresolvedInContainer : RawContainer → Fault → Type 0
  IsUnresolvedInContainer container fault =
      InList (codes "EntitySet") IsUnresolvedInSet container.sets fault
      ⊎ InList (codes "AssociationSet") IsUnresolvedInAssociationSet container.association_sets fault

  -- a name in the model, by what names stand for
  abbrev pub IsUnresolvedIn : Fault → Type 0
  IsUnresolvedIn fault =
      Under (Member (codes "EntityContainer")) (IsUnresolvedInContainer model.container) fault
      ⊎ InList (codes "EntityType") IsUnresolvedInType model.types fault
      ⊎ InList (codes "Association") IsUnresolvedInAssociation model.associations fault

-- V7
abbrev pub IsUnresolved : RawModel → Fault → Type 0
IsUnresolved model = IsUnresolvedIn (names_in model) model
