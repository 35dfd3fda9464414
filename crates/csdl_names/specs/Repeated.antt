-- V6: a name is given twice in its scope. The second name breaks the rule, in the order of places: members in byte order of their names,
-- items by number.
-- Source: CSDL version 3, the names of types, associations, sets, properties, members and roles.
use Rattle.layouts.specs.rule_places.Names.{IsRepeatedIn}
use Rattle.std.specs.Prelude.{◌⊎◌, ℕ, List, [], ◌∷◌, ◌++◌, map, codes, Contains}
use Rattle.json_form.specs.declared.pointer.Step.TheVariants.{Member}
use Rattle.layouts.specs.declared.fault.Fault.{Fault}
use Rattle.layouts.specs.declared.rule.Rule.TheVariants.{NamedOnce}
use Rattle.layouts.specs.Inside.{Under}
use Rattle.groupings.specs.name_places.GivenNames.{IsGivenBefore}
use Rattle.layouts.specs.rule_places.Places.{IsAt, InList}
use Rattle.csdl_names.specs.declared.csdl_lists.raw.RawAssociation.{RawAssociation}
use Rattle.csdl_names.specs.declared.csdl_lists.raw.RawContainer.{RawContainer}
use Rattle.csdl_names.specs.declared.csdl_lists.raw.RawEnum.{RawEnum}
use Rattle.csdl_names.specs.declared.csdl_lists.raw.RawModel.{RawModel}
use Rattle.csdl_names.specs.declared.csdl_lists.raw.RawType.{RawType}

module _ {X Y : Type 0} (name_in : X → List ℕ) (other_in : Y → List ℕ) where
  -- the items of two lists at these members, each with its name at its Name: the first list stands before the second in their scope
  abbrev pub IsRepeatedInBoth : List ℕ → List X → List ℕ → List Y → Fault → Type 0
  IsRepeatedInBoth first firsts second seconds fault =
      IsRepeatedIn name_in [] first (codes "Name") firsts fault
      ⊎ IsRepeatedIn other_in (map name_in firsts) second (codes "Name") seconds fault

-- the associations, the types and the enumeration types of a schema
abbrev pub IsRepeatedInSchema : RawModel → Fault → Type 0
IsRepeatedInSchema model fault =
    let associations = map (λ association. association.name) model.associations in
    let types = map (λ type. type.name) model.types in
    IsRepeatedIn (λ association. association.name) [] (codes "Association") (codes "Name") model.associations fault
    ⊎ IsRepeatedIn (λ type. type.name) associations (codes "EntityType") (codes "Name") model.types fault
    ⊎ IsRepeatedIn (λ enum. enum.name) (associations ++ types) (codes "EnumType") (codes "Name") model.enums fault

-- the association sets and the entity sets of a container
abbrev pub IsRepeatedInContainer : RawContainer → Fault → Type 0
IsRepeatedInContainer container =
    IsRepeatedInBoth (λ set. set.name) (λ set. set.name) (codes "AssociationSet") container.association_sets (codes "EntitySet") container.sets

-- the navigation properties and the properties of a type
abbrev pub IsRepeatedInType : ℕ → RawType → Fault → Type 0
IsRepeatedInType i type =
    IsRepeatedInBoth (λ nav. nav.name) (λ prop. prop.name) (codes "NavigationProperty") type.navs (codes "Property") type.props

-- the members of an enumeration type
abbrev pub IsRepeatedInEnum : ℕ → RawEnum → Fault → Type 0
IsRepeatedInEnum i enum = IsRepeatedIn (λ member. member.name) [] (codes "Member") (codes "Name") enum.members

-- the roles of an association
abbrev pub IsRepeatedInAssociation : ℕ → RawAssociation → Fault → Type 0
IsRepeatedInAssociation i association = IsRepeatedIn (λ end. end.role) [] (codes "End") (codes "Role") association.ends

-- V6
abbrev pub IsRepeated : RawModel → Fault → Type 0
IsRepeated model fault =
    IsRepeatedInSchema model fault
    ⊎ Under (Member (codes "EntityContainer")) (IsRepeatedInContainer model.container) fault
    ⊎ InList (codes "EntityType") IsRepeatedInType model.types fault
    ⊎ InList (codes "EnumType") IsRepeatedInEnum model.enums fault
    ⊎ InList (codes "Association") IsRepeatedInAssociation model.associations fault
