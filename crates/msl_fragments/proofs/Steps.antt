-- The rules of each step of the reader have greater numbers than those of the step before it.
use Rattle.std.proofs.Common.{◌≡◌, ⊎_elim, ◌<◌, ◌≤◌, ap, arith}
use Rattle.layouts.specs.declared.fault.Fault.{Fault}
use Rattle.layouts.specs.declared.rule.Rule.TheVariants.{ContainerName, NamedOnce, Resolves}
use Rattle.layouts.specs.Rules.{rule_number}
use Rattle.layouts.proofs.rule_places.Rules.{after_number}
use Rattle.round_trip.specs.Words.{EntityModel, StoreModel}
use Rattle.msl_rules.specs.declared.msl_lists.raw.RawMapping.{RawMapping}
use Rattle.msl_rules.specs.NameRules.{BreaksTypeNameRules, HasOtherContainer, IsMappedTwice, IsUnresolvedName}
use Rattle.msl_rules.specs.MappingFaults.{BreaksMappingRules, IsFaultAfterNames, IsMappingListFault}
use Rattle.msl_fragments.specs.Steps.{IsFaultAfterContainers, IsFaultAfterTwice}
use Rattle.msl_fragments.proofs.RuleNumbers.{container_rule, picks_rule, twice_rule, unresolved_rule, writing_rule}

module _ (model : EntityModel) (store : StoreModel) (raw : RawMapping) (fault : Fault) where
  -- V27 and those after it
  container_number : IsFaultAfterContainers model store raw fault → 26 < rule_number fault.rule
  container_number = ⊎_elim
      (λ (picks : BreaksTypeNameRules model raw fault). (picks_rule model store raw fault picks).0)
      (λ (writing : BreaksMappingRules model store raw fault). let late : 28 < rule_number fault.rule = writing_rule model store raw fault writing in omega (arith, late))

  -- V26 and those after it
  name_number : IsFaultAfterNames model store raw fault → 7 < rule_number fault.rule
  name_number = ⊎_elim
      (λ (other : HasOtherContainer model store raw fault). after_number 7 ContainerName fault.rule (container_rule model store raw fault other) (omega arith))
      (λ (later : IsFaultAfterContainers model store raw fault). let late : 26 < rule_number fault.rule = container_number later in omega (arith, late))

  -- V7 and those after it
  twice_number : IsFaultAfterTwice model store raw fault → 6 < rule_number fault.rule
  twice_number = ⊎_elim
      (λ (unresolved : IsUnresolvedName model store raw fault). after_number 6 Resolves fault.rule (unresolved_rule model store raw fault unresolved) (omega arith))
      (λ (later : IsFaultAfterNames model store raw fault). let late : 7 < rule_number fault.rule = name_number later in omega (arith, late))

  -- on what is written: V6 and those after it
  pub list_number : IsMappingListFault model store raw fault → 5 < rule_number fault.rule
  list_number = ⊎_elim
      (λ (twice : IsMappedTwice raw fault). after_number 5 NamedOnce fault.rule (twice_rule raw fault twice) (omega arith))
      (λ (later : IsFaultAfterTwice model store raw fault). let late : 6 < rule_number fault.rule = twice_number later in omega (arith, late))

  pub after_twice : (found : Fault) → IsMappedTwice raw found → IsFaultAfterTwice model store raw fault → rule_number found.rule < rule_number fault.rule
  after_twice found twice later =
      let is : rule_number found.rule ≡ 6 = ap rule_number (twice_rule raw found twice) in
      let late : 6 < rule_number fault.rule = twice_number later in omega (arith, is, late)

  pub after_unresolved : (found : Fault) → IsUnresolvedName model store raw found → IsFaultAfterNames model store raw fault → rule_number found.rule < rule_number fault.rule
  after_unresolved found unresolved later =
      let is : rule_number found.rule ≡ 7 = ap rule_number (unresolved_rule model store raw found unresolved) in
      let late : 7 < rule_number fault.rule = name_number later in omega (arith, is, late)

  pub after_container : (found : Fault) → HasOtherContainer model store raw found → IsFaultAfterContainers model store raw fault → rule_number found.rule < rule_number fault.rule
  after_container found other later =
      let is : rule_number found.rule ≡ 26 = ap rule_number (container_rule model store raw found other) in
      let late : 26 < rule_number fault.rule = container_number later in omega (arith, is, late)

  pub after_picks : (found : Fault) → BreaksTypeNameRules model raw found → BreaksMappingRules model store raw fault → rule_number found.rule < rule_number fault.rule
  after_picks found picks later =
      let few : rule_number found.rule ≤ 28 = (picks_rule model store raw found picks).1 in
      let late : 28 < rule_number fault.rule = writing_rule model store raw fault later in omega (arith, few, late)
