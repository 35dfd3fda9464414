-- Sound constraints of several properties, by tests. The second end refers to the first.
use Rattle.std.proofs.Common.{◌≡◌, ◌<◌, List, [], ◌∷◌, map, sym, subst}
use Rattle.std.specs.Prelude.{Bool, true, false, option_map, Some, Contains}
use Rattle.std.specs.List.{AllByRecursion, list_all}
use Rattle.emc_base.specs.Lists.{HoldsEachOnce}
use Rattle.emc_base.proofs.Lists.{all_from_members}
use Rattle.edm_types.specs.declared.model.Mult.TheVariants.{One, ZeroOrOne, Many}
use Rattle.round_trip.specs.Words.{PropId, EntityModel, Assoc, Constraint, dependent_end, key_props, principal_end, props_of}
use Rattle.round_trip.specs.soundness.Kinds.{without_bound}
use Rattle.round_trip.specs.soundness.Lookups.{IsElement, IsNeeded, prop_kind}
use Rattle.round_trip.specs.soundness.models.Constraints.{HasMatchedLists, IsSoundConstraint}
use Rattle.worked_examples.proofs.sound_examples.Lists.{all, apart}
use Rattle.worked_examples.proofs.sound_examples.Names.{props_decide, same_prop}
use Rattle.worked_examples.proofs.sound_examples.Tests.{all_new, all_pass, all_true, among, are_new, each_true, is_among}
use Rattle.worked_examples.proofs.sound_examples.models.Models.{FallsBack}

-- a list without repeats holds each of its items once
each_once : (props : List PropId) → are_new same_prop props ≡ true → HoldsEachOnce props props
each_once props test = record {
  once = apart props (all_new same_prop props_decide props test);
  all = all_from_members (Contains props) props (λ p has. has);
  only = all_from_members (Contains props) props (λ p has. has);
}

module _ (model : EntityModel) (assoc : Assoc) (principal dependent : List PropId) where
  abbrev refers : Constraint
  refers = record { dependent_first = false; principal = principal; dependent = dependent }

  abbrev pub list_tests : List Bool
  list_tests = are_new same_prop principal ∷ are_new same_prop dependent ∷ list_all (is_among same_prop (props_of model assoc.second.ty)) dependent ∷ []

  pub record ListFacts : Type 0 where
    pub element : IsElement model assoc.first.set assoc.first.ty
    pub own : IsElement model assoc.second.set assoc.second.ty
    pub key : key_props model assoc.first.ty ≡ principal
    pub tests : all_true list_tests ≡ true
    pub kinds : map (λ prop. option_map without_bound (prop_kind model prop)) principal ≡ map (λ prop. option_map without_bound (prop_kind model prop)) dependent

  lists : ListFacts → HasMatchedLists model assoc refers
  lists facts =
      let told = each_true list_tests facts.tests in
      record {
        element = facts.element;
        principal = subst (λ these. HoldsEachOnce these principal) (sym facts.key) (each_once principal told.0);
        dependent = all_pass (Contains (props_of model assoc.second.ty)) (is_among same_prop (props_of model assoc.second.ty))
            (among same_prop props_decide (props_of model assoc.second.ty)) dependent told.1.1.0;
        once = apart dependent (all_new same_prop props_decide dependent told.1.0);
        kinds = facts.kinds;
      }

  -- any number of entities refer to exactly one
  pub many_to_one : assoc.first.mult ≡ One → assoc.second.mult ≡ Many → AllByRecursion (IsNeeded model) dependent → ListFacts → IsSoundConstraint model assoc refers
  many_to_one one many needed facts = record {
    mults = record {
      principal = λ is. absurd (cc (is, one));
      one_principal = λ is. all (IsNeeded model) dependent needed;
      dependent = λ is. absurd (cc (is, many));
      one_dependent = λ is. absurd (cc (is, many));
    };
    lists = lists facts;
    element = λ by_key. facts.own;
  }

  -- any number refer to one at most
  pub many_to_some : assoc.first.mult ≡ ZeroOrOne → assoc.second.mult ≡ Many → ListFacts → IsSoundConstraint model assoc refers
  many_to_some some many facts = record {
    mults = record {
      principal = λ is. absurd (cc (is, some));
      one_principal = λ is. absurd (cc (is, some));
      dependent = λ is. absurd (cc (is, many));
      one_dependent = λ is. absurd (cc (is, many));
    };
    lists = lists facts;
    element = λ by_key. facts.own;
  }

  -- one at most refers to exactly one, by its whole key
  pub some_to_one : assoc.first.mult ≡ One → assoc.second.mult ≡ ZeroOrOne → key_props model assoc.second.ty ≡ dependent → AllByRecursion (IsNeeded model) dependent → ListFacts
      → IsSoundConstraint model assoc refers
  some_to_one one some whole needed facts =
      let told = each_true list_tests facts.tests in
      record {
        mults = record {
          principal = λ is. absurd (cc (is, one));
          one_principal = λ is. all (IsNeeded model) dependent needed;
          dependent = λ is. absurd (cc (is, some));
          one_dependent = λ is. subst (λ these. HoldsEachOnce these dependent) (sym whole) (each_once dependent told.1.0);
        };
        lists = lists facts;
        element = λ by_key. facts.own;
      }

  -- the first end's set stands before the second's
  pub falls : assoc.constraint ≡ Some refers → assoc.first.set.index < assoc.second.set.index → FallsBack model assoc
  falls is below constraint constrained by_key needed =
      let same : refers ≡ constraint = cc (is, constrained) in
      let P : Constraint → Type 0 = λ c. (principal_end assoc c).set.index < (dependent_end assoc c).set.index in
      subst P same below
