-- A type that is its own ancestor is told before all that is wrong against later rules.
use Rattle.std.proofs.Common.{◌≡◌, ⊎_elim, inr, ℕ, ◌<◌, ◌≤◌, List, [], ◌∷◌, codes, MatchOption, Option, Some, None, sym, subst, arith}
use Rattle.std.specs.Option.{option_map}
use Rattle.emc_base.specs.Lists.{At}
use Rattle.json_form.specs.declared.pointer.Step.TheVariants.{Member, Item}
use Rattle.groupings.specs.least_fault.Least.{IsLeast}
use Rattle.groupings.proofs.least_fault.Leasts.{least_same}
use Rattle.layouts.specs.declared.fault.Fault.{Fault}
use Rattle.layouts.specs.declared.rule.Rule.{Rule}
use Rattle.layouts.specs.declared.rule.Rule.TheVariants.{Ancestors, Bound, InheritedName, KeyProperty, PropertyType, TypeKey}
use Rattle.layouts.specs.Faults.{fault_cmp}
use Rattle.layouts.specs.Inside.{after}
use Rattle.layouts.specs.Rules.{rule_number}
use Rattle.layouts.specs.rule_places.Places.{InList}
use Rattle.layouts.proofs.rule_places.Rules.{least_by_place, least_of_lower, rule_inside, upto_not_greater}
use Rattle.graphs.specs.base_chains.Chains.{IsAncestor, direct, further, base_at}
use Rattle.graphs.specs.base_chains.Walks.{IsFirst}
use Rattle.csdl_names.specs.declared.csdl_lists.raw.RawEnum.{RawEnum}
use Rattle.csdl_names.specs.declared.csdl_lists.raw.RawModel.{RawModel}
use Rattle.csdl_names.specs.declared.csdl_lists.raw.RawType.{RawType}
use Rattle.csdl_names.specs.csdl_lists.References.{base_of, names_in}
use Rattle.csdl_types.specs.Inherited.{IsAncestorFault, IsInheritedFault}
use Rattle.csdl_types.specs.Keys.{IsNoKeyPropFault}
use Rattle.csdl_types.specs.PropTypes.{IsEnumFault, IsNoTypeFault, IsNumberFault, IsPropBoundFault}
use Rattle.csdl_types.specs.Numbers.{numbers_of, under_of}
use Rattle.csdl_types.specs.TypeRules.{BreaksLaterRules, BreaksTypeRules, IsLaterFault}
use Rattle.csdl_names.proofs.csdl_lists.BaseTypes.{is_type}

-- what holds of these rules holds of the rule of each fault against them
module _ (B : Rule → Type 0) (key : B TypeKey) (part : B KeyProperty) (inherited : B InheritedName) (type_is : B PropertyType) (bound : B Bound) (model : RawModel) where
  so : (rule other : Rule) → other ≡ rule → B rule → B other
  so rule other is holds = subst B (sym is) holds

  in_type : (i : ℕ) (type : RawType) (fault : Fault) → IsLaterFault (names_in model) model i type fault → B fault.rule
  in_type i type fault = ⊎_elim
      (λ holds. so TypeKey fault.rule holds.1.0 key)
      (⊎_elim (key_prop type.key)
      (⊎_elim (⊎_elim
      (rule_inside B (codes "Property") (λ k prop. IsInheritedFault (IsAncestor (base_of (names_in model) model) i) model.types prop.name) type.props (λ k prop inside holds. so InheritedName inside.rule holds.1.0 inherited) fault)
      (rule_inside B (codes "NavigationProperty") (λ k nav. IsInheritedFault (IsAncestor (base_of (names_in model) model) i) model.types nav.name) type.navs (λ k nav inside holds. so InheritedName inside.rule holds.1.0 inherited) fault))
      (⊎_elim
      (rule_inside B (codes "Property") (λ k. IsNoTypeFault (names_in model).enum_named) type.props (λ k prop inside holds. so PropertyType inside.rule holds.1.0 type_is) fault)
      (rule_inside B (codes "Property") (λ k. IsPropBoundFault) type.props (λ k prop inside holds. so Bound inside.rule holds.1.0 bound) fault))))
    where
      key_prop : (named : Option (List (List ℕ))) → MatchOption named ⊥ (λ names. InList (codes "Property") (λ k. IsNoKeyPropFault names) type.props fault) → B fault.rule
      key_prop None none = absurd none
      key_prop (Some names) some = rule_inside B (codes "Property") (λ k. IsNoKeyPropFault names) type.props (λ k prop inside holds. so KeyProperty inside.rule holds.1.0 part) fault some

  in_enum : (enum : RawEnum) (fault : Fault) → IsEnumFault enum fault → B fault.rule
  in_enum enum fault = ⊎_elim
      (λ under. so PropertyType fault.rule under.1.0 type_is)
      (⊎_elim (λ none. so PropertyType fault.rule none.1.0 type_is) (member (under_of enum)))
    where
      member : (known : Option _) → MatchOption known ⊥ (λ under. InList (codes "Member") (λ k. IsNumberFault under) (numbers_of enum) fault) → B fault.rule
      member None none = absurd none
      member (Some under) some = rule_inside B (codes "Member") (λ k. IsNumberFault under) (numbers_of enum) (λ k number inside holds. so PropertyType inside.rule holds.1.0 type_is) fault some

  pub by_rules : (fault : Fault) → BreaksLaterRules model fault → B fault.rule
  by_rules fault = ⊎_elim
      (rule_inside B (codes "EntityType") (IsLaterFault (names_in model) model) model.types in_type fault)
      (rule_inside B (codes "EnumType") (λ i. IsEnumFault) model.enums (λ i enum inside holds. in_enum enum inside holds) fault)

module _ (model : RawModel) where
  abbrev base : ℕ → Option ℕ
  base = base_of (names_in model) model

  -- each fault against the later rules comes after V8
  pub later_rule : (fault : Fault) → BreaksLaterRules model fault → 8 < rule_number fault.rule
  later_rule = by_rules (λ rule. 8 < rule_number rule) (omega arith) (omega arith) (omega arith) (omega arith) (omega arith) model

  -- and is one of the rules up to V13
  pub last_rule : (fault : Fault) → BreaksLaterRules model fault → rule_number fault.rule ≤ 13
  last_rule = by_rules (λ rule. rule_number rule ≤ 13) (omega arith) (omega arith) (omega arith) (omega arith) (omega arith) model

  -- a type that is its own ancestor is a type
  ancestor_type : (i : ℕ) → IsAncestor base i i → (type : RawType) × At model.types i type
  ancestor_type i (direct _ _ is) = is_type model i i is
  ancestor_type i (further _ j _ is _) = is_type model i j is

  -- the fault of the first type that is its own ancestor is the least of all
  pub cycle_least : (bases : List (Option ℕ)) → base_at bases ≡ base → (first : ℕ) → IsFirst (λ i. IsAncestor (base_at bases) i i) (Some first)
      → IsLeast fault_cmp (BreaksTypeRules model) (option_map (after (Member (codes "EntityType"))) (option_map (λ i. record { rule = Ancestors; place = Item i ∷ Member (codes "BaseType") ∷ [] }) (Some first)))
  cycle_least bases based first is =
      let P : (ℕ → Option ℕ) → Type 0 = λ b. IsFirst (λ i. IsAncestor b i i) (Some first) in
      let own = subst P based is in
      let type = ancestor_type first own.0 in
      least_of_lower (InList (codes "EntityType") (λ i type. IsAncestorFault base i) model.types) (BreaksLaterRules model) _
      (least_by_place Ancestors (Member (codes "BaseType") ∷ []) (λ i type. IsAncestor base i i) model.types (codes "EntityType") (Some first)
      ((type.0, type.1, own.0), λ k holds. upto_not_greater first k (own.1 k holds.2)))
      later_rule

  -- where there is none, the least fault against the later rules is the least of all
  pub rooted_least : (bases : List (Option ℕ)) → base_at bases ≡ base → ((i : ℕ) → ¬ IsAncestor (base_at bases) i i) → (found : Option Fault)
      → IsLeast fault_cmp (BreaksLaterRules model) found → IsLeast fault_cmp (BreaksTypeRules model) found
  rooted_least bases based rooted found = least_same fault_cmp (BreaksLaterRules model) (BreaksTypeRules model) found
      (λ fault holds. inr holds) (λ fault. ⊎_elim
      (λ some. absurd (subst (λ (b : ℕ → Option ℕ). (i : ℕ) → ¬ IsAncestor b i i) based rooted some.holds.i some.holds.holds.holds.0))
      (λ holds. holds))
