-- A name that is given twice breaks the one rule, whatever its scope.
use Rattle.std.proofs.Common.{◌≡◌, ⊎_elim, ℕ, List, ◌∷◌, [], map, ◌++◌}
use Rattle.std.specs.Prelude.{codes}
use Rattle.json_form.specs.declared.pointer.Step.TheVariants.{Member}
use Rattle.layouts.specs.declared.fault.Fault.{Fault}
use Rattle.layouts.specs.declared.rule.Rule.{Rule}
use Rattle.layouts.specs.declared.rule.Rule.TheVariants.{NamedOnce}
use Rattle.layouts.specs.rule_places.Places.{IsAt}
use Rattle.layouts.proofs.rule_places.Rules.{rule_behind, rule_inside}
use Rattle.csdl_names.specs.declared.csdl_lists.raw.RawAssociation.{RawAssociation}
use Rattle.csdl_names.specs.declared.csdl_lists.raw.RawContainer.{RawContainer}
use Rattle.csdl_names.specs.declared.csdl_lists.raw.RawEnum.{RawEnum}
use Rattle.csdl_names.specs.declared.csdl_lists.raw.RawModel.{RawModel}
use Rattle.csdl_names.specs.declared.csdl_lists.raw.RawType.{RawType}
use Rattle.csdl_names.specs.Repeated.{IsRepeated, IsRepeatedInAssociation, IsRepeatedInContainer, IsRepeatedInEnum, IsRepeatedInSchema, IsRepeatedInType}
use Rattle.layouts.specs.rule_places.Names.{IsGivenAgain, IsRepeatedIn}

-- the rule
abbrev IsOfNames : Rule → Type 0
IsOfNames rule = rule ≡ NamedOnce

in_list : {X : Type 0} (name_in : X → List ℕ) (others : List (List ℕ)) (member last : List ℕ) (items : List X) (fault : Fault)
    → IsRepeatedIn name_in others member last items fault → IsOfNames fault.rule
in_list name_in others member last items =
    rule_inside IsOfNames member (λ i item inside. IsGivenAgain name_in others items i item × IsAt NamedOnce (Member last ∷ []) inside) items (λ i item inside is. is.1.0)

in_schema : (model : RawModel) (fault : Fault) → IsRepeatedInSchema model fault → IsOfNames fault.rule
in_schema model fault = ⊎_elim
    (in_list (λ association. association.name) [] (codes "Association") (codes "Name") model.associations fault)
    (⊎_elim
    (in_list (λ type. type.name) (map (λ association. association.name) model.associations) (codes "EntityType") (codes "Name") model.types fault)
    (in_list (λ enum. enum.name) (map (λ association. association.name) model.associations ++ map (λ type. type.name) model.types) (codes "EnumType") (codes "Name") model.enums fault))

in_container : (container : RawContainer) (fault : Fault) → IsRepeatedInContainer container fault → IsOfNames fault.rule
in_container container fault = ⊎_elim
    (in_list (λ set. set.name) [] (codes "AssociationSet") (codes "Name") container.association_sets fault)
    (in_list (λ set. set.name) (map (λ set. set.name) container.association_sets) (codes "EntitySet") (codes "Name") container.sets fault)

in_type : (i : ℕ) (type : RawType) (fault : Fault) → IsRepeatedInType i type fault → IsOfNames fault.rule
in_type i type fault = ⊎_elim
    (in_list (λ nav. nav.name) [] (codes "NavigationProperty") (codes "Name") type.navs fault)
    (in_list (λ prop. prop.name) (map (λ nav. nav.name) type.navs) (codes "Property") (codes "Name") type.props fault)

in_enum : (i : ℕ) (enum : RawEnum) (fault : Fault) → IsRepeatedInEnum i enum fault → IsOfNames fault.rule
in_enum i enum = in_list (λ member. member.name) [] (codes "Member") (codes "Name") enum.members

in_association : (i : ℕ) (association : RawAssociation) (fault : Fault) → IsRepeatedInAssociation i association fault → IsOfNames fault.rule
in_association i association = in_list (λ end. end.role) [] (codes "End") (codes "Role") association.ends

pub repeated_rule : (model : RawModel) (fault : Fault) → IsRepeated model fault → fault.rule ≡ NamedOnce
repeated_rule model fault = ⊎_elim (in_schema model fault)
    (⊎_elim (rule_behind IsOfNames (Member (codes "EntityContainer")) (IsRepeatedInContainer model.container) (in_container model.container) fault)
    (⊎_elim (rule_inside IsOfNames (codes "EntityType") IsRepeatedInType model.types in_type fault)
    (⊎_elim (rule_inside IsOfNames (codes "EnumType") IsRepeatedInEnum model.enums in_enum fault)
    (rule_inside IsOfNames (codes "Association") IsRepeatedInAssociation model.associations in_association fault))))
