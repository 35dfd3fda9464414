-- That a rule is kept in a given document, item by item, and for names by tests that compute.
use Rattle.std.proofs.Common.{◌≡◌, ⊎_elim, ℕ, zero, suc, ◌+◌, ◌<◌, true, List, [], ◌∷◌, Contains, subst, arith, zero-add}
use Rattle.std.specs.Bool.{⊤}
use Rattle.std.specs.List.{list_all, list_any}
use Rattle.std.specs.Str.{bytes_eq}
use Rattle.std.proofs.lemmas.Bool.{not-true}
use Rattle.std.proofs.lemmas.Option.{same_Some}
use Rattle.emc_base.specs.Lists.{At}
use Rattle.emc_base.proofs.Lists.{passes_at, same_place}
use Rattle.json_form.specs.declared.pointer.Step.{Step}
use Rattle.layouts.specs.declared.fault.Fault.{Fault}
use Rattle.layouts.specs.Inside.{Under}
use Rattle.layouts.specs.rule_places.Names.{IsRepeatedIn}
use Rattle.layouts.specs.rule_places.Places.{InList}
use Rattle.groupings.specs.name_places.GivenNames.{IsGivenBefore}
use Rattle.groupings.proofs.name_places.ByTests.{differ, differ_tells, is_new, not_among}

-- nothing is wrong behind a step
pub none_under : (step : Step) (P : Fault → Type 0) → ((fault : Fault) → ¬ P fault) → (fault : Fault) → ¬ Under step P fault
none_under step P none fault broken = none (record { rule = fault.rule; place = broken.rest }) broken.holds

module _ {X : Type 0} where
  -- so it is of each item and its number
  abbrev pub EachFrom : (ℕ → X → Type 0) → ℕ → List X → Type 0
  EachFrom Q n [] = ⊤
  EachFrom Q n (x ∷ xs) = Q n x × EachFrom Q (n + 1) xs

  -- and so it is of the item at a place
  pub each_at : (Q : ℕ → X → Type 0) (n m i : ℕ) (xs : List X) (x : X) → n + i ≡ m → EachFrom Q n xs → At xs i x → Q m x
  each_at Q n m i [] x same each here = absurd cc
  each_at Q n m zero (y ∷ xs) x same each here =
      let number : n ≡ m = omega arith in
      let item : y ≡ x = same_Some y x here in
      subst (λ k. Q k x) number (subst (λ z. Q n z) item each.0)
  each_at Q n m (suc i) (y ∷ xs) x same each here = each_at Q (n + 1) m i xs x (omega arith) each.1 here

  -- nothing is wrong with the items of a list
  pub none_in : (P : ℕ → X → Fault → Type 0) (member : List ℕ) (items : List X) → EachFrom (λ i item. (fault : Fault) → ¬ P i item fault) 0 items
      → (fault : Fault) → ¬ InList member P items fault
  none_in P member items each fault broken =
      each_at (λ i item. (fault : Fault) → ¬ P i item fault) 0 broken.holds.i broken.holds.i items broken.holds.item (zero-add broken.holds.i) each broken.holds.here
      (record { rule = fault.rule; place = broken.holds.holds.rest }) broken.holds.holds.holds

module _ {X : Type 0} (name_in : X → List ℕ) where
  -- no name is given again
  pub none_again : (others : List (List ℕ)) (member last : List ℕ) (items : List X) → differ name_in items ≡ true → list_all (is_new name_in others) items ≡ true
      → (fault : Fault) → ¬ IsRepeatedIn name_in others member last items fault
  none_again others member last items apart new fault broken = ⊎_elim
      (λ (other : Contains others (name_in broken.holds.item)). not_among (name_in broken.holds.item) others
      (not-true (list_any (bytes_eq (name_in broken.holds.item)) others) (passes_at (is_new name_in others) items broken.holds.i broken.holds.item new broken.holds.here)) other)
      (λ (given : IsGivenBefore name_in items broken.holds.i broken.holds.item).
      let one : given.i ≡ broken.holds.i = same_place name_in items given.i broken.holds.i given.other broken.holds.item (differ_tells name_in items apart) given.here broken.holds.here given.same in
      let before : given.i < broken.holds.i = given.before in
      absurd (omega (arith, one, before)))
      broken.holds.holds.holds.0
