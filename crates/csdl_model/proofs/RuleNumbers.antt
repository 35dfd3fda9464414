-- The rules of each search have greater numbers than those of the search before it.
use Rattle.std.proofs.Common.{◌≡◌, ⊎_elim, ◌<◌, ◌≤◌, ap, arith}
use Rattle.std.specs.Prelude.{codes}
use Rattle.json_form.specs.declared.pointer.Step.TheVariants.{Member}
use Rattle.layouts.specs.declared.fault.Fault.{Fault}
use Rattle.layouts.specs.declared.rule.Rule.{Rule}
use Rattle.layouts.specs.declared.rule.Rule.TheVariants.{Arrows, ConcreteType, Constraint, DependentKey, EndRoles, EndType, Multiplicities, NamedOnce, Resolves}
use Rattle.layouts.specs.Rules.{rule_number}
use Rattle.layouts.proofs.rule_places.Rules.{after_number, rule_behind, rule_inside}
use Rattle.csdl_names.specs.declared.csdl_lists.raw.RawContainer.{RawContainer}
use Rattle.csdl_names.specs.declared.csdl_lists.raw.RawModel.{RawModel}
use Rattle.csdl_names.specs.csdl_lists.References.{base_of, names_in}
use Rattle.csdl_names.specs.Repeated.{IsRepeated}
use Rattle.csdl_names.specs.Unresolved.{IsUnresolved}
use Rattle.csdl_types.specs.Inherited.{IsAncestorFault}
use Rattle.csdl_types.specs.TypeRules.{BreaksTypeRules}
use Rattle.csdl_types.proofs.Cycles.{last_rule, later_rule}
use Rattle.csdl_associations.specs.csdl_constraints.Constraints.{BreaksConstraintRules, IsAssociationFault}
use Rattle.csdl_associations.specs.csdl_association_sets.Concrete.{IsElementFault, IsEndsFault, IsEndTypeFault}
use Rattle.csdl_associations.specs.csdl_association_sets.SetRules.{BreaksSetRules, IsContainerFault, IsSetFault}
use Rattle.csdl_model.specs.ModelFaults.{BreaksAssociationRules, IsFaultAfterNames, IsFaultAfterReferences, IsListFault}
use Rattle.csdl_names.proofs.RepeatedRule.{repeated_rule}
use Rattle.csdl_names.proofs.UnresolvedRule.{unresolved_rule}

-- the rule comes after V13
abbrev IsOfAssociations : Rule → Type 0
IsOfAssociations rule = 13 < rule_number rule

module _ (model : RawModel) where
  in_container : (container : RawContainer) (fault : Fault) → IsContainerFault (names_in model) model container fault → IsOfAssociations fault.rule
  in_container container fault = ⊎_elim
      (rule_inside IsOfAssociations (codes "EntitySet") (IsElementFault (names_in model) model) container.sets (λ i set inside is. after_number 13 ConcreteType inside.rule is.1.0 (omega arith)) fault)
      (rule_inside IsOfAssociations (codes "AssociationSet") (IsSetFault (names_in model) model) container.association_sets
      (λ i set inside. ⊎_elim (λ is. after_number 13 EndRoles inside.rule is.1.0 (omega arith))
      (⊎_elim (λ is. after_number 13 DependentKey inside.rule is.1.0 (omega arith))
      (⊎_elim (λ is. after_number 13 Arrows inside.rule is.1.0 (omega arith)) (λ is. after_number 13 EndType inside.rule is.1.0 (omega arith)))))
      fault)

  of_constraints : (fault : Fault) → BreaksConstraintRules model fault → IsOfAssociations fault.rule
  of_constraints = rule_inside IsOfAssociations (codes "Association") (IsAssociationFault (names_in model) model) model.associations
      (λ a association inside. ⊎_elim (λ is. after_number 13 Multiplicities inside.rule is.1.0 (omega arith)) (λ is. after_number 13 Constraint inside.rule is.1.0 (omega arith)))

  of_sets : (fault : Fault) → BreaksSetRules model fault → IsOfAssociations fault.rule
  of_sets fault = ⊎_elim
      (rule_behind IsOfAssociations (Member (codes "EntityContainer")) (IsContainerFault (names_in model) model model.container) (in_container model.container) fault)
      (rule_inside IsOfAssociations (codes "Association") (IsEndsFault (names_in model) model) model.associations
      (λ a association inside is. rule_inside IsOfAssociations (codes "End") (IsEndTypeFault (names_in model) model) association.ends (λ k end deep holds. after_number 13 ConcreteType deep.rule holds.1.0 (omega arith)) inside is.1)
      fault)

  module _ (fault : Fault) where
    -- on associations and sets: the fourteenth and those after it
    association_rule : BreaksAssociationRules model fault → 13 < rule_number fault.rule
    association_rule = ⊎_elim (of_constraints fault) (of_sets fault)

    -- on types: the eighth to the thirteenth
    type_rule : BreaksTypeRules model fault → (7 < rule_number fault.rule) × (rule_number fault.rule ≤ 13)
    type_rule = ⊎_elim
        (rule_inside (λ rule. (7 < rule_number rule) × (rule_number rule ≤ 13)) (codes "EntityType") (λ i type. IsAncestorFault (base_of (names_in model) model) i) model.types
        (λ i type inside is. let number : rule_number inside.rule ≡ 8 = ap rule_number is.1.0 in (omega (arith, number), omega (arith, number))) fault)
        (λ later. let late : 8 < rule_number fault.rule = later_rule model fault later in (omega (arith, late), last_rule model fault later))

    -- on types, associations and sets: the eighth and those after it
    later_rule_number : IsFaultAfterReferences model fault → 7 < rule_number fault.rule
    later_rule_number = ⊎_elim (λ is. (type_rule is).0) (λ is. let late : 13 < rule_number fault.rule = association_rule is in omega (arith, late))

    -- on names that resolve to nothing, and all after them: the seventh and those after it
    later_number : IsFaultAfterNames model fault → 6 < rule_number fault.rule
    later_number = ⊎_elim
        (λ unresolved. after_number 6 Resolves fault.rule (unresolved_rule model fault unresolved) (omega arith))
        (λ later. let late : 7 < rule_number fault.rule = later_rule_number later in omega (arith, late))

    -- after a name that resolves to nothing
    pub after_unresolved : (found : Fault) → IsUnresolved model found → IsFaultAfterReferences model fault → rule_number found.rule < rule_number fault.rule
    after_unresolved found unresolved later =
        let is : rule_number found.rule ≡ 7 = ap rule_number (unresolved_rule model found unresolved) in
        let late : 7 < rule_number fault.rule = later_rule_number later in omega (arith, is, late)

    -- after a name that is given twice
    pub after_repeated : (found : Fault) → IsRepeated model found → IsFaultAfterNames model fault → rule_number found.rule < rule_number fault.rule
    after_repeated found repeated later =
        let is : rule_number found.rule ≡ 6 = ap rule_number (repeated_rule model found repeated) in
        let late : 6 < rule_number fault.rule = later_number later in omega (arith, is, late)

    -- on what is written: the sixth and those after it
    pub list_number : IsListFault model fault → 5 < rule_number fault.rule
    list_number = ⊎_elim
        (λ repeated. after_number 5 NamedOnce fault.rule (repeated_rule model fault repeated) (omega arith))
        (λ later. let late : 6 < rule_number fault.rule = later_number later in omega (arith, late))

-- on associations and sets, after a type that breaks a rule
pub after_types : (model : RawModel) (found fault : Fault) → BreaksTypeRules model found → BreaksAssociationRules model fault → rule_number found.rule < rule_number fault.rule
after_types model found fault broken later =
    let few : rule_number found.rule ≤ 13 = (type_rule model found broken).1 in
    let late : 13 < rule_number fault.rule = association_rule model fault later in omega (arith, few, late)
