-- A name that resolves to nothing breaks the one rule, wherever it stands.
use Rattle.std.proofs.Common.{◌≡◌, ⊎_elim, ℕ, List}
use Rattle.std.specs.Prelude.{codes}
use Rattle.json_form.specs.declared.pointer.Step.TheVariants.{Member}
use Rattle.layouts.specs.declared.fault.Fault.{Fault}
use Rattle.layouts.specs.declared.rule.Rule.{Rule}
use Rattle.layouts.specs.declared.rule.Rule.TheVariants.{Resolves}
use Rattle.layouts.specs.Inside.{Under}
use Rattle.layouts.specs.rule_places.Places.{InList}
use Rattle.layouts.proofs.rule_places.Rules.{rule_behind, rule_inside, rule_where}
use Rattle.csdl_names.specs.declared.csdl_lists.raw.RawAssociation.{RawAssociation}
use Rattle.csdl_names.specs.declared.csdl_lists.raw.RawAssociationSet.{RawAssociationSet}
use Rattle.csdl_names.specs.declared.csdl_lists.raw.RawConstraint.{RawConstraint}
use Rattle.csdl_names.specs.declared.csdl_lists.raw.RawContainer.{RawContainer}
use Rattle.csdl_names.specs.declared.csdl_lists.raw.RawModel.{RawModel}
use Rattle.csdl_names.specs.declared.csdl_lists.raw.RawNav.{RawNav}
use Rattle.csdl_names.specs.declared.csdl_lists.raw.RawRole.{RawRole}
use Rattle.csdl_names.specs.declared.csdl_lists.raw.RawSetEnd.{RawSetEnd}
use Rattle.csdl_names.specs.declared.csdl_lists.raw.RawType.{RawType}
use Rattle.csdl_names.specs.csdl_lists.References.{Names, names_in}
use Rattle.csdl_names.specs.Unresolved.{IsUnresolved, IsUnresolvedIn, IsUnresolvedInAssociation, IsUnresolvedInAssociationSet, IsUnresolvedInConstraint, IsUnresolvedInContainer, IsUnresolvedInEnd, IsUnresolvedInNav, IsUnresolvedInRole, IsUnresolvedInSet, IsUnresolvedInSetEnd, IsUnresolvedInType, IsUnresolvedProp, type_of_role}
use Rattle.layouts.specs.rule_places.Names.{NamesNothing}

-- the rule
abbrev IsOfReferences : Rule → Type 0
IsOfReferences rule = rule ≡ Resolves

module _ (names : Names) (model : RawModel) where
  in_set_end : (set : RawAssociationSet) (i : ℕ) (end : RawSetEnd) (fault : Fault) → IsUnresolvedInSetEnd names model set i end fault → IsOfReferences fault.rule
  in_set_end set i end fault = ⊎_elim (λ is. is.1.0) (λ is. is.1.0)

  in_association_set : (i : ℕ) (set : RawAssociationSet) (fault : Fault) → IsUnresolvedInAssociationSet names model i set fault → IsOfReferences fault.rule
  in_association_set i set fault = ⊎_elim (λ is. is.1.0)
      (rule_inside IsOfReferences (codes "End") (IsUnresolvedInSetEnd names model set) set.ends (in_set_end set) fault)

  in_container : (container : RawContainer) (fault : Fault) → IsUnresolvedInContainer names model container fault → IsOfReferences fault.rule
  in_container container fault = ⊎_elim
      (rule_inside IsOfReferences (codes "EntitySet") (IsUnresolvedInSet names model) container.sets (λ i set inside is. is.1.0) fault)
      (rule_inside IsOfReferences (codes "AssociationSet") (IsUnresolvedInAssociationSet names model) container.association_sets in_association_set fault)

  in_nav : (i : ℕ) (nav : RawNav) (fault : Fault) → IsUnresolvedInNav names model i nav fault → IsOfReferences fault.rule
  in_nav i nav fault = ⊎_elim (λ is. is.1.0) (⊎_elim (λ is. is.1.0) (λ is. is.1.0))

  in_props : (member : List ℕ) (type : ℕ) (props : List (List ℕ)) (fault : Fault) → InList member (IsUnresolvedProp names model type) props fault → IsOfReferences fault.rule
  in_props member type props = rule_inside IsOfReferences member (IsUnresolvedProp names model type) props (λ i name inside is. is.1.0)

  in_type : (i : ℕ) (type : RawType) (fault : Fault) → IsUnresolvedInType names model i type fault → IsOfReferences fault.rule
  in_type i type fault = ⊎_elim
      (rule_where IsOfReferences (λ reference inside. NamesNothing (names.type_named reference) (codes "BaseType") inside) type.base fault (λ reference is. is.1.0))
      (⊎_elim
      (rule_where IsOfReferences (λ key inside. InList (codes "Key") (IsUnresolvedProp names model i) key inside) type.key fault (λ key. in_props (codes "Key") i key fault))
      (rule_inside IsOfReferences (codes "NavigationProperty") (IsUnresolvedInNav names model) type.navs in_nav fault))

  in_role : (association : RawAssociation) (role : RawRole) (fault : Fault) → IsUnresolvedInRole names model association role fault → IsOfReferences fault.rule
  in_role association role fault = ⊎_elim (λ is. is.1.0)
      (rule_where IsOfReferences (λ type inside. InList (codes "PropertyRef") (IsUnresolvedProp names model type) role.props inside) (type_of_role names model association role.role) fault
      (λ type. in_props (codes "PropertyRef") type role.props fault))

  in_constraint : (association : RawAssociation) (constraint : RawConstraint) (fault : Fault) → IsUnresolvedInConstraint names model association constraint fault → IsOfReferences fault.rule
  in_constraint association constraint fault = ⊎_elim
      (rule_behind IsOfReferences (Member (codes "Principal")) (IsUnresolvedInRole names model association constraint.principal) (in_role association constraint.principal) fault)
      (rule_behind IsOfReferences (Member (codes "Dependent")) (IsUnresolvedInRole names model association constraint.dependent) (in_role association constraint.dependent) fault)

  in_association : (i : ℕ) (association : RawAssociation) (fault : Fault) → IsUnresolvedInAssociation names model i association fault → IsOfReferences fault.rule
  in_association i association fault = ⊎_elim
      (rule_inside IsOfReferences (codes "End") (IsUnresolvedInEnd names model) association.ends (λ k end inside is. is.1.0) fault)
      (rule_where IsOfReferences (λ constraint inside. Under (Member (codes "ReferentialConstraint")) (IsUnresolvedInConstraint names model association constraint) inside) association.constraint fault
      (λ constraint. rule_behind IsOfReferences (Member (codes "ReferentialConstraint")) (IsUnresolvedInConstraint names model association constraint) (in_constraint association constraint) fault))

  in_model : (fault : Fault) → IsUnresolvedIn names model fault → IsOfReferences fault.rule
  in_model fault = ⊎_elim
      (rule_behind IsOfReferences (Member (codes "EntityContainer")) (IsUnresolvedInContainer names model model.container) (in_container model.container) fault)
      (⊎_elim
      (rule_inside IsOfReferences (codes "EntityType") (IsUnresolvedInType names model) model.types in_type fault)
      (rule_inside IsOfReferences (codes "Association") (IsUnresolvedInAssociation names model) model.associations in_association fault))

pub unresolved_rule : (model : RawModel) (fault : Fault) → IsUnresolved model fault → fault.rule ≡ Resolves
unresolved_rule model = in_model (names_in model) model
