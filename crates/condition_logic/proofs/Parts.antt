-- What holds of some and of each item of a list.
use Rattle.std.proofs.Common.{◌≡◌, ◌↔◌, ◌⊎◌, ◌<◌, ◌≤◌, ⊎_elim, inl, inr, ℕ, suc, List, [], ◌∷◌, length, get_or, take, All, Any, Contains, refl, sym, subst, arith}
use Rattle.std.proofs.lemmas.List.{take_all}
use Rattle.std.proofs.lemmas.List.Elements.{All-nil, All-cons, All-head, All-tail, All-contains}
use Rattle.emc_base.proofs.facts.Standing.{any_cases}

-- one after the other
pub iff_trans : {P Q R : Type 0} → P ↔ Q → Q ↔ R → P ↔ R
iff_trans one two = (λ p. two.0 (one.0 p), λ r. one.1 (two.1 r))

module _ {X : Type 0} (P : X → Type 0) where
  -- a member of which it holds
  pub any_of : (xs : List X) (x : X) → Contains xs x → P x → Any P xs
  any_of xs x has holds = (has.0, x, has.1, has.2, holds)

  -- the member of which it holds
  pub of_any : (xs : List X) → Any P xs → (x : X) × Contains xs x × P x
  of_any xs any = (any.1, (any.0, any.2, any.3), any.4)

  pub any_none : ¬ Any P []
  any_none any = absurd (let within = any.2 in omega arith)

  pub any_first : (x : X) (xs : List X) → P x → Any P (x ∷ xs)
  any_first x xs holds = (0, x, omega arith, refl, holds)

  pub any_later : (x : X) (xs : List X) → Any P xs → Any P (x ∷ xs)
  any_later x xs any = let within = any.2 in (suc any.0, any.1, omega arith, any.3, any.4)

  -- of each of two items
  pub all_two : (x y : X) → All P (x ∷ y ∷ []) ↔ (P x × P y)
  all_two x y = (
    λ all. (All-head P x (y ∷ []) all, All-head P y [] (All-tail P x (y ∷ []) all)),
    λ both. All-cons P x (y ∷ []) both.0 (All-cons P y [] both.1 (All-nil P)),
  )

  -- of one of two items
  pub any_two : (x y : X) → Any P (x ∷ y ∷ []) → P x ⊎ P y
  any_two x y any = ⊎_elim (λ (here : P x). inl here)
      (λ (later : Any P (y ∷ [])). ⊎_elim (λ (there : P y). inr there) (λ (none : Any P []). absurd (any_none none)) (any_cases P y [] later)) (any_cases P x (y ∷ []) any)

  -- an item of which it doesn't hold
  pub all_broken : (xs : List X) (i : ℕ) (x : X) → i < length xs → x ≡ get_or xs i x → ¬ P x → ¬ All P xs
  all_broken xs i x within is broken all = broken (subst P (sym is) (all i x within))

  -- an item of which it holds
  pub any_found : (xs : List X) (i : ℕ) (x : X) → i < length xs → x ≡ get_or xs i x → P x → Any P xs
  any_found xs i x within is holds = (i, x, within, sym is, holds)

  -- all items were passed
  pub all_passed : (xs : List X) (i : ℕ) → length xs ≤ i → All P (take i xs) → All P xs
  all_passed xs i end all = subst (All P) (take_all i xs end) all

  -- all items were passed, and it held of none
  pub any_missed : (xs : List X) (i : ℕ) → length xs ≤ i → All (λ x. ¬ P x) (take i xs) → ¬ Any P xs
  any_missed xs i end none any =
      let NotP : X → Type 0 = λ x. ¬ P x in
      All-contains NotP xs any.1 (subst (All NotP) (take_all i xs end) none) (any.0, any.2, any.3) any.4
