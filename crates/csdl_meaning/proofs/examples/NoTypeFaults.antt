-- That a type keeps the rules V6 to V13 in a given document, by tests that compute.
use Rattle.std.proofs.Common.{◌+◌, ◌≡◌, ◌≢◌, ⊎_elim, ℕ, ◌≤◌, ◌&&◌, ◌||◌, ℤ, pos, Bool, true, false, length, get_or, List, [], ◌∷◌, map, Any, Option, Some, None, codes, sym, ap, subst, ◌∙◌}
use Rattle.std.specs.Prelude.{◌≤ℤ◌}
use Rattle.std.specs.List.{list_all, list_any}
use Rattle.std.specs.Option.{is_some, option_and_then}
use Rattle.std.specs.Str.{bytes_eq}
use Rattle.std.proofs.lemmas.Bool.{and_parts, both_ways, not-true}
use Rattle.std.proofs.lemmas.List.Folds.{Any-from_list_any, list_any_at}
use Rattle.std.proofs.lemmas.Option.{none-some, same_Some}
use Rattle.std.proofs.lemmas.Slice.Eq.{bytes_eq-Decides}
use Rattle.emc_base.specs.Lists.{At}
use Rattle.emc_base.proofs.Lists.{at_once, passes_at}
use Rattle.layouts.specs.declared.fault.Fault.{Fault}
use Rattle.layouts.specs.declared.rule.Rule.{Rule}
use Rattle.layouts.specs.declared.rule.Rule.TheVariants.{KeyProperty}
use Rattle.round_trip.specs.soundness.Kinds.{largest_bound}
use Rattle.graphs.specs.base_chains.Chains.{IsAncestor}
use Rattle.csdl_names.specs.declared.csdl_lists.raw.RawBound.{RawBound}
use Rattle.csdl_names.specs.declared.csdl_lists.raw.RawBound.TheVariants.{Absent, Max, Number}
use Rattle.csdl_names.specs.declared.csdl_lists.raw.RawModel.{RawModel}
use Rattle.csdl_names.specs.declared.csdl_lists.raw.RawNav.{RawNav}
use Rattle.csdl_names.specs.declared.csdl_lists.raw.RawProp.{RawProp}
use Rattle.csdl_names.specs.declared.csdl_lists.raw.RawType.{RawType}
use Rattle.csdl_names.specs.csdl_lists.References.{Names, base_of}
use Rattle.csdl_names.specs.Repeated.{IsRepeatedInType}
use Rattle.csdl_names.specs.Unresolved.{Declares, LacksProp, derived, root}
use Rattle.csdl_types.specs.Inherited.{HasName, IsInherited, IsInheritedNameFault}
use Rattle.csdl_types.specs.Keys.{CanBeKey, IsFailingKeyProp, IsKey, IsNoKeyPropFault}
use Rattle.csdl_types.specs.PropTypes.{BreaksBound, HasLength, IsPropBoundFault, IsPropTypeFault}
use Rattle.csdl_types.specs.Simple.{simple_of}
use Rattle.layouts.proofs.rule_places.NoFaults.{EachFrom, none_again}
use Rattle.graphs.proofs.base_chains.Settled.{none_above_root, root_above}
use Rattle.groupings.proofs.name_places.ByTests.{differ, differ_tells, is_new, not_among}

-- something is found
pub not_none : {X : Type 0} (found : Option X) → is_some found ≡ true → found ≢ None
not_none None some none = absurd cc
not_none (Some x) some none = absurd cc

-- V6: no member of the type repeats a name
pub once_in_type : (i : ℕ) (type : RawType) → (differ (λ nav. nav.name) type.navs && list_all (is_new (λ nav. nav.name) []) type.navs) ≡ true
    → (differ (λ prop. prop.name) type.props && list_all (is_new (λ prop. prop.name) (map (λ nav. nav.name) type.navs)) type.props) ≡ true
    → (fault : Fault) → ¬ IsRepeatedInType i type fault
once_in_type i type navs props fault =
    let of_navs = and_parts (differ (λ nav. nav.name) type.navs) (list_all (is_new (λ nav. nav.name) []) type.navs) navs in
    let of_props = and_parts (differ (λ prop. prop.name) type.props) (list_all (is_new (λ prop. prop.name) (map (λ nav. nav.name) type.navs)) type.props) props in
    ⊎_elim
    (none_again (λ nav. nav.name) [] (codes "NavigationProperty") (codes "Name") type.navs of_navs.0 of_navs.1 fault)
    (none_again (λ prop. prop.name) (map (λ nav. nav.name) type.navs) (codes "Property") (codes "Name") type.props of_props.0 of_props.1 fault)

-- V7: the type declares a property
pub declares : (type : RawType) (name : List ℕ) → list_any (λ prop. bytes_eq prop.name name) type.props ≡ true → Declares type name
declares type name test =
    let found = Any-from_list_any (λ (prop : RawProp). bytes_eq prop.name name) type.props test in
    (found.0, found.1, found.2, found.3, (bytes_eq-Decides found.1.name name).0 found.4)

-- a type doesn't lack what it declares
pub not_lacked : (names : Names) (model : RawModel) (name : List ℕ) (i : ℕ) (type : RawType) → At model.types i type → Declares type name → ¬ LacksProp names model name i
not_lacked names model name i type here has (root _ other there _ lacks) = lacks (subst (λ type. Declares type name) (at_once model.types i type other here there) has)
not_lacked names model name i type here has (derived _ _ other there _ lacks _) = lacks (subst (λ type. Declares type name) (at_once model.types i type other here there) has)

-- nor what its base type doesn't lack
pub not_lacked_above : (names : Names) (model : RawModel) (name : List ℕ) (i j : ℕ) → base_of names model i ≡ Some j → ¬ LacksProp names model name j → ¬ LacksProp names model name i
not_lacked_above names model name i j is has (root _ type here none _) = none-some j
    (sym (ap (option_and_then (λ (type : RawType). option_and_then names.type_named type.base)) here ∙ ap (option_and_then names.type_named) none) ∙ is)
not_lacked_above names model name i j is has (derived _ base type here next _ lacks) = has (subst (LacksProp names model name) (same_Some base j (sym next ∙ is)) lacks)

-- V9: a key
pub key_by : (key : List (List ℕ)) → key ≢ [] → length key ≤ 4 → differ (λ name. name) key ≡ true → IsKey key
key_by key some few apart = record { some = some; few = few; once = differ_tells (λ name. name) key apart }

-- V10, V23: no property that isn't of the key is asked for
pub others_pass : (rule : Rule) (Fails : RawProp → Type 0) (key : List (List ℕ)) (n : ℕ) (props : List RawProp) → list_all (is_new (λ prop. prop.name) key) props ≡ true
    → EachFrom (λ i prop. (fault : Fault) → ¬ IsFailingKeyProp rule Fails key prop fault) n props
others_pass rule Fails key n [] test = tt
others_pass rule Fails key n (prop ∷ props) test =
    let parts = and_parts (is_new (λ prop. prop.name) key prop) (list_all (is_new (λ prop. prop.name) key) props) test in
    ((λ fault broken. not_among prop.name key (not-true (list_any (bytes_eq prop.name) key) parts.0) broken.0.0), others_pass rule Fails key (n + 1) props parts.1)

pub others_not_in_key : (key : List (List ℕ)) (n : ℕ) (props : List RawProp) → list_all (is_new (λ prop. prop.name) key) props ≡ true
    → EachFrom (λ i prop. (fault : Fault) → ¬ IsNoKeyPropFault key prop fault) n props
others_not_in_key = others_pass KeyProperty (λ prop. ¬ CanBeKey prop)

-- and one that can be of a key breaks nothing
pub in_key : (key : List (List ℕ)) {prop : RawProp} → CanBeKey prop → (fault : Fault) → ¬ IsNoKeyPropFault key prop fault
in_key key {prop} fits fault broken = broken.0.1 fits

-- V12: each property has a type
abbrev pub is_typed : (List ℕ → Option ℕ) → RawProp → Bool
is_typed enum_named prop = is_some (simple_of prop.kind) || is_some (enum_named prop.kind)

one_found : {X Y : Type 0} (one : Option X) (other : Option Y) → (is_some one || is_some other) ≡ true → one ≡ None → other ≢ None
one_found None None found none nothing = absurd cc
one_found None (Some y) found none nothing = absurd cc
one_found (Some x) other found none nothing = absurd cc

pub all_typed : (enum_named : List ℕ → Option ℕ) (type : RawType) → list_all (is_typed enum_named) type.props ≡ true → (fault : Fault) → ¬ IsPropTypeFault enum_named type fault
all_typed enum_named type typed fault broken = one_found (simple_of broken.holds.item.kind) (enum_named broken.holds.item.kind)
    (passes_at (is_typed enum_named) type.props broken.holds.i broken.holds.item typed broken.holds.here) broken.holds.holds.holds.0.simple broken.holds.holds.holds.0.enum

module _ (base : ℕ → Option ℕ) (types : List RawType) (i : ℕ) where
  -- V11: a type with nothing above it inherits nothing
  pub none_inherited : (type : RawType) → base i ≡ None → (fault : Fault) → ¬ IsInheritedNameFault base types i type fault
  none_inherited type none fault = ⊎_elim
      (λ broken. none_above_root base i broken.holds.holds.holds.0.ancestor none broken.holds.holds.holds.0.above)
      (λ broken. none_above_root base i broken.holds.holds.holds.0.ancestor none broken.holds.holds.holds.0.above)

  -- and a type with one type above it no name that this one doesn't have
  pub not_inherited : (j : ℕ) (upper : RawType) → base i ≡ Some j → base j ≡ None → At types j upper → (name : List ℕ)
      → list_any (λ prop. bytes_eq prop.name name) upper.props ≡ false → list_any (λ nav. bytes_eq nav.name name) upper.navs ≡ false → ¬ IsInherited (IsAncestor base i) types name
  not_inherited j upper is none here name no_prop no_nav inherited =
      let above : inherited.ancestor ≡ j = root_above base i j inherited.ancestor is none inherited.above in
      let type : inherited.type ≡ upper = at_once types j inherited.type upper (subst (λ k. At types k inherited.type) above inherited.is_type) here in
      ⊎_elim
      (λ (prop : Any (λ prop. prop.name ≡ name) upper.props). both_ways (list_any (λ prop. bytes_eq prop.name name) upper.props) no_prop
      (list_any_at (λ prop. bytes_eq prop.name name) upper.props prop.0 prop.1 prop.2
      ((bytes_eq-Decides (get_or upper.props prop.0 prop.1).name name).1 (ap (λ (prop : RawProp). prop.name) prop.3 ∙ prop.4))))
      (λ (nav : Any (λ nav. nav.name ≡ name) upper.navs). both_ways (list_any (λ nav. bytes_eq nav.name name) upper.navs) no_nav
      (list_any_at (λ nav. bytes_eq nav.name name) upper.navs nav.0 nav.1 nav.2
      ((bytes_eq-Decides (get_or upper.navs nav.0 nav.1).name name).1 (ap (λ (nav : RawNav). nav.name) nav.3 ∙ nav.4))))
      (subst (λ type. HasName type name) type inherited.has)

-- V13: a bound of a text or a byte list
pub fits : (HasOne : Type 0) (number : ℤ) → HasOne → pos 1 ≤ℤ number → number ≤ℤ pos largest_bound → ¬ BreaksBound HasOne (Number number)
fits HasOne number long some few = ⊎_elim (λ short. short long) (λ wrong. wrong (some, few))

-- and none where there is none
abbrev is_unbounded : RawBound → Bool
is_unbounded Absent = true
is_unbounded Max = false
is_unbounded (Number number) = false

pub unbounded : (n : ℕ) (props : List RawProp) → list_all (λ prop. is_unbounded prop.bound) props ≡ true → EachFrom (λ i prop. (fault : Fault) → ¬ IsPropBoundFault prop fault) n props
unbounded n [] test = tt
unbounded n (prop ∷ props) test =
    let parts = and_parts (is_unbounded prop.bound) (list_all (λ prop. is_unbounded prop.bound) props) test in
    ((λ fault wrong. by prop.bound parts.0 wrong.0), unbounded (n + 1) props parts.1)
  where
    by : (bound : RawBound) → is_unbounded bound ≡ true → ¬ BreaksBound (HasLength (simple_of prop.kind)) bound
    by Absent absent wrong = wrong
    by Max absent wrong = absurd cc
    by (Number number) absent wrong = absurd cc
