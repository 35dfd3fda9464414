-- The rules of each search have greater numbers than those of the search before it.
use Rattle.std.proofs.Common.{◌≡◌, ⊎_elim, ◌<◌, ap, arith}
use Rattle.std.specs.Prelude.{codes}
use Rattle.json_form.specs.declared.pointer.Step.TheVariants.{Member}
use Rattle.layouts.specs.declared.fault.Fault.{Fault}
use Rattle.layouts.specs.declared.rule.Rule.TheVariants.{NamedOnce, Resolves}
use Rattle.layouts.specs.Rules.{rule_number}
use Rattle.layouts.specs.rule_places.Places.{InList}
use Rattle.layouts.proofs.rule_places.Rules.{after_number, rule_behind, rule_inside}
use Rattle.csdl_names.specs.declared.csdl_lists.raw.RawModel.{RawModel}
use Rattle.csdl_names.specs.csdl_lists.References.{names_in}
use Rattle.csdl_names.proofs.RepeatedRule.{repeated_rule}
use Rattle.csdl_names.proofs.UnresolvedRule.{unresolved_rule}
use Rattle.ssdl_model.specs.ssdl_rules.Owned.{HasEndlessFault, IsEndless, IsEndlessFault, IsShared, IsSharedFault}
use Rattle.ssdl_model.specs.ssdl_rules.StoreRules.{BreaksStoreRules}
use Rattle.ssdl_model.proofs.ssdl_rules.RuleNumbers.{store_rule}
use Rattle.ssdl_model.specs.StoreFaults.{IsFaultAfterNames, IsGivenTwice, IsStoreListFault, NamesNothing}

module _ (store : RawModel) where
  shared_rule : (fault : Fault) → IsShared store fault → fault.rule ≡ NamedOnce
  shared_rule = rule_behind (λ rule. rule ≡ NamedOnce) (Member (codes "EntityContainer")) (InList (codes "EntitySet") (IsSharedFault (names_in store) store) store.container.sets)
      (rule_inside (λ rule. rule ≡ NamedOnce) (codes "EntitySet") (IsSharedFault (names_in store) store) store.container.sets (λ i set inside is. is.1.0))

  endless_rule : (fault : Fault) → IsEndless store fault → fault.rule ≡ Resolves
  endless_rule = rule_inside (λ rule. rule ≡ Resolves) (codes "Association") (HasEndlessFault (names_in store) store) store.associations
      (λ a association. rule_inside (λ rule. rule ≡ Resolves) (codes "End") (IsEndlessFault (names_in store) store) association.ends (λ k end inside is. is.1.0))

  module _ (fault : Fault) where
    given_twice_rule : IsGivenTwice store fault → fault.rule ≡ NamedOnce
    given_twice_rule = ⊎_elim (repeated_rule store fault) (shared_rule fault)

    nameless_rule : NamesNothing store fault → fault.rule ≡ Resolves
    nameless_rule = ⊎_elim (unresolved_rule store fault) (endless_rule fault)

    -- on names that resolve to nothing, and all after them: the seventh and those after it
    later_number : IsFaultAfterNames store fault → 6 < rule_number fault.rule
    later_number = ⊎_elim
        (λ nameless. after_number 6 Resolves fault.rule (nameless_rule nameless) (omega arith))
        (λ later. let late = store_rule store fault later in omega (arith, late))

    -- on what is written: the sixth and those after it
    pub list_number : IsStoreListFault store fault → 5 < rule_number fault.rule
    list_number = ⊎_elim
        (λ twice. after_number 5 NamedOnce fault.rule (given_twice_rule twice) (omega arith))
        (λ later. let late : 6 < rule_number fault.rule = later_number later in omega (arith, late))

  -- after a name that resolves to nothing
  pub after_nameless : (found fault : Fault) → NamesNothing store found → BreaksStoreRules store fault → rule_number found.rule < rule_number fault.rule
  after_nameless found fault nameless later =
      let is : rule_number found.rule ≡ 7 = ap rule_number (nameless_rule found nameless) in
      let late = store_rule store fault later in omega (arith, is, late)

  -- after a name that is given twice
  pub after_given_twice : (found fault : Fault) → IsGivenTwice store found → IsFaultAfterNames store fault → rule_number found.rule < rule_number fault.rule
  after_given_twice found fault twice later =
      let is : rule_number found.rule ≡ 6 = ap rule_number (given_twice_rule found twice) in
      let late : 6 < rule_number fault.rule = later_number fault later in omega (arith, is, late)
