-- What holds between the members of short lists.
use Rattle.std.proofs.Common.{◌≡◌, ⊎_elim, [], ◌∷◌, All, AllPairs, Contains, sym, subst, arith}
use Rattle.std.proofs.lemmas.List.Kept.{AllPairs-cons}
use Rattle.emc_base.proofs.Lists.{all_from_members}
use Rattle.emc_base.proofs.Members.{contains_cons_cases, contains_nil}

-- pairs of two and of three items
module _ {X : Type 0} (R : X → X → Type 0) where
  pub pairs_none : AllPairs R []
  pairs_none = λ i j d below within. absurd (omega (arith, within))

  pub pairs_one : (x : X) → AllPairs R (x ∷ [])
  pairs_one x = AllPairs-cons R x [] (λ i d below. absurd (omega (arith, below))) pairs_none

  all_one : (P : X → Type 0) (x : X) → P x → All P (x ∷ [])
  all_one P x holds = all_from_members P (x ∷ []) (λ y has. ⊎_elim (λ (here : y ≡ x). subst P (sym here) holds) (λ (later : Contains [] y). absurd (contains_nil y later)) (contains_cons_cases x [] y has))

  all_two : (P : X → Type 0) (x y : X) → P x → P y → All P (x ∷ (y ∷ []))
  all_two P x y one two = all_from_members P (x ∷ (y ∷ [])) (λ z has. ⊎_elim
      (λ (here : z ≡ x). subst P (sym here) one)
      (λ (later : Contains (y ∷ []) z). ⊎_elim
      (λ (here : z ≡ y). subst P (sym here) two) (λ (never : Contains [] z). absurd (contains_nil z never)) (contains_cons_cases y [] z later))
      (contains_cons_cases x (y ∷ []) z has))

  pub pairs_two : (x y : X) → R x y → AllPairs R (x ∷ (y ∷ []))
  pairs_two x y one = AllPairs-cons R x (y ∷ []) (all_one (R x) y one) (pairs_one y)

  pub pairs_three : (x y z : X) → R x y → R x z → R y z → AllPairs R (x ∷ (y ∷ (z ∷ [])))
  pairs_three x y z one two three = AllPairs-cons R x (y ∷ (z ∷ [])) (all_two (R x) y z one two) (pairs_two y z three)
