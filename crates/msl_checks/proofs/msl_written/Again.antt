-- Names that are given again, by the first repeat in a list of names.
use Rattle.std.proofs.Common.{◌≡◌, ◌⊎◌, inl, inr, ⊎_elim, ℕ, List, [], map, codes, get_or, slice_get, Option, Some, None, IsTrue, refl, sym, ap, subst, ◌∙◌}
use Rattle.std.specs.Borrow.{Bor}
use Rattle.std.specs.Option.{option_map}
use Rattle.std.specs.Ordering.{eq_by_cmp, is_eq, nat_cmp}
use Rattle.std.specs.Cmp.{Equal-is, tied_itself}
use Rattle.std.specs.Cmp.Lexicographic.{nat_list_cmp_total, slice_cmp}
use Rattle.std.specs.FinMap.{nat_cmp-IsAntisymmetric, slice_cmp-IsAntisymmetric}
use Rattle.std.proofs.lemmas.Option.{get_or_from_slice_get, slice_get-map, slice_get_within}
use Rattle.emc_base.specs.Lists.{At}
use Rattle.groupings.specs.least_fault.Least.{IsLeast, earlier}
use Rattle.groupings.proofs.least_fault.Leasts.{least_same}
use Rattle.layouts.specs.declared.fault.Fault.{Fault}
use Rattle.layouts.specs.declared.rule.Rule.TheVariants.{WrittenOnce}
use Rattle.layouts.specs.Faults.{fault_cmp}
use Rattle.layouts.specs.rule_places.Places.{InList, IsAt, item_fault}
use Rattle.layouts.proofs.rule_places.Rules.{in_list_map, least_by_place, least_in_list_of_both, least_joined, upto_not_greater}
use Rattle.groupings.specs.name_places.GivenNames.{IsGivenBefore}
use Rattle.entity_state.specs.breach_order.Repeats.{IsFirstRepeat, IsRepeat}
use Rattle.msl_rules.specs.declared.msl_lists.raw.RawPair.{RawPair}
use Rattle.msl_rules.specs.FragmentRules.{IsWrittenBefore}
use Rattle.msl_checks.specs.msl_written.Again.{IsAgain}

-- what an image is that of
some_of : {X Z : Type 0} (f : X → Z) (known : Option X) (z : Z) → option_map f known ≡ Some z → (x : X) × (known ≡ Some x) × (f x ≡ z)
some_of f None z is = absurd cc
some_of f (Some x) z is = (x, refl, cc)

-- where two lists have the same images, so have their items
item_of : {X Y Z : Type 0} (f : X → Z) (g : Y → Z) (xs : List X) (ys : List Y) (i : ℕ) (y : Y) → map f xs ≡ map g ys → At ys i y → (x : X) × At xs i x × (f x ≡ g y)
item_of f g xs ys i y same here = some_of f (slice_get xs i) (g y)
    (sym (slice_get-map f xs i) ∙ ap (λ zs. slice_get zs i) same ∙ slice_get-map g ys i ∙ ap (option_map g) here)

-- names that the order ties, wherever they are lent
abbrev Tied : Bor (List ℕ) → Bor (List ℕ) → Type 0
Tied one other = IsTrue (eq_by_cmp (λ a b. slice_cmp nat_cmp a.now b.now) one other)

same_name : (one other : Bor (List ℕ)) → Tied one other → one.now ≡ other.now
same_name one other tied = slice_cmp-IsAntisymmetric nat_cmp-IsAntisymmetric one.now other.now ((Equal-is (slice_cmp nat_cmp one.now other.now)).0 tied)

tied_name : (one other : Bor (List ℕ)) → one.now ≡ other.now → Tied one other
tied_name one other same = ap is_eq (ap (slice_cmp nat_cmp one.now) (sym same) ∙ tied_itself nat_list_cmp_total one.now)

module _ {X : Type 0} (name_in : X → List ℕ) (items : List X) (names : List (Bor (List ℕ))) (same : map (λ given. given.now) names ≡ map name_in items) where
  again : (k : ℕ) → IsRepeat Tied names k → IsAgain name_in items k
  again k repeat =
      let item = item_of name_in (λ (given : Bor (List ℕ)). given.now) items names k repeat.item (sym same) repeat.here in
      let other = item_of name_in (λ (given : Bor (List ℕ)). given.now) items names repeat.earlier repeat.other (sym same) repeat.there in (
        item.0,
        item.1,
        record {
          i = repeat.earlier;
          other = other.0;
          before = repeat.before;
          here = other.1;
          same = other.2 ∙ same_name repeat.other repeat.item repeat.like ∙ sym item.2;
        },
      )

  repeated : (k : ℕ) → IsAgain name_in items k → IsRepeat Tied names k
  repeated k given =
      let item = item_of (λ (name : Bor (List ℕ)). name.now) name_in names items k given.0 same given.1 in
      let other = item_of (λ (name : Bor (List ℕ)). name.now) name_in names items given.2.i given.2.other same given.2.here in
      record {
        earlier = given.2.i;
        before = given.2.before;
        item = item.0;
        other = other.0;
        here = item.1;
        there = other.1;
        like = tied_name other.0 item.0 (other.2 ∙ given.2.same ∙ sym item.2);
      }

  -- the first repeat in the names is the first item whose name was given before
  pub first_again : (first : Option ℕ) → IsFirstRepeat Tied names first → IsLeast nat_cmp (IsAgain name_in items) first
  first_again None apart = λ k given.
      let repeat = repeated k given in
      apart repeat.earlier k repeat.item repeat.before (slice_get_within names k repeat.item repeat.here)
      (tied_name (get_or names repeat.earlier repeat.item) (get_or names k repeat.item)
      (ap (λ (name : Bor (List ℕ)). name.now) (get_or_from_slice_get names repeat.earlier repeat.other repeat.item repeat.there)
      ∙ same_name repeat.other repeat.item repeat.like
      ∙ sym (ap (λ (name : Bor (List ℕ)). name.now) (get_or_from_slice_get names k repeat.item repeat.item repeat.here))))
  first_again (Some place) is = (again place is.0, λ k given. upto_not_greater place k (is.1 k (repeated k given)))

module _ (pairs : List RawPair) where
  -- the pair has a property, a column, that one before it has, and is told
  abbrev By : (RawPair → List ℕ) → ℕ → RawPair → Fault → Type 0
  By name_in k pair inside = IsGivenBefore name_in pairs k pair × IsAt WrittenOnce [] inside

  of_name : (name_in : RawPair → List ℕ) (first : Option ℕ) (found : Option Fault) → IsLeast nat_cmp (IsAgain name_in pairs) first
      → found ≡ item_fault WrittenOnce (codes "ScalarProperty") [] first → IsLeast fault_cmp (InList (codes "ScalarProperty") (By name_in) pairs) found
  of_name name_in first found least is = subst (λ (told : Option Fault). IsLeast fault_cmp (InList (codes "ScalarProperty") (By name_in) pairs) told) (sym is)
      (least_by_place WrittenOnce [] (IsGivenBefore name_in pairs) pairs (codes "ScalarProperty") first least)

  -- the earlier of the two is the least of the pairs whose property, or whose column, was written before
  pub least_again : (prop col : Option ℕ) (of_prop of_col found : Option Fault)
      → IsLeast nat_cmp (IsAgain (λ pair. pair.prop) pairs) prop → of_prop ≡ item_fault WrittenOnce (codes "ScalarProperty") [] prop
      → IsLeast nat_cmp (IsAgain (λ pair. pair.col) pairs) col → of_col ≡ item_fault WrittenOnce (codes "ScalarProperty") [] col
      → found ≡ earlier fault_cmp of_prop of_col
      → IsLeast fault_cmp (InList (codes "ScalarProperty") (λ k pair inside. IsWrittenBefore pairs k pair × IsAt WrittenOnce [] inside) pairs) found
  least_again prop col of_prop of_col found first_prop prop_is first_col col_is is =
      least_same fault_cmp (InList (codes "ScalarProperty") (λ k pair inside. By (λ one. one.prop) k pair inside ⊎ By (λ one. one.col) k pair inside) pairs)
      (InList (codes "ScalarProperty") (λ k pair inside. IsWrittenBefore pairs k pair × IsAt WrittenOnce [] inside) pairs) found
      (in_list_map (codes "ScalarProperty") _ _ pairs to) (in_list_map (codes "ScalarProperty") _ _ pairs back)
      (least_in_list_of_both (codes "ScalarProperty") (By (λ one. one.prop)) (By (λ one. one.col)) pairs found
      (least_joined (InList (codes "ScalarProperty") (By (λ one. one.prop)) pairs) (InList (codes "ScalarProperty") (By (λ one. one.col)) pairs) of_prop of_col found is
      (of_name (λ one. one.prop) prop of_prop first_prop prop_is) (of_name (λ one. one.col) col of_col first_col col_is)))
    where
      to : (k : ℕ) (pair : RawPair) (inside : Fault) → By (λ one. one.prop) k pair inside ⊎ By (λ one. one.col) k pair inside → IsWrittenBefore pairs k pair × IsAt WrittenOnce [] inside
      to k pair inside = ⊎_elim (λ (one : By (λ one. one.prop) k pair inside). (inl one.0, one.1)) (λ (one : By (λ one. one.col) k pair inside). (inr one.0, one.1))

      back : (k : ℕ) (pair : RawPair) (inside : Fault) → IsWrittenBefore pairs k pair × IsAt WrittenOnce [] inside → By (λ one. one.prop) k pair inside ⊎ By (λ one. one.col) k pair inside
      back k pair inside both = ⊎_elim
          (λ (given : IsGivenBefore (λ one. one.prop) pairs k pair). inl (given, both.1))
          (λ (given : IsGivenBefore (λ one. one.col) pairs k pair). inr (given, both.1))
          both.0
