-- Lists with one item more, and tests.
use Rattle.std.proofs.Common.{◌≡◌, ◌↔◌, ◌⊎◌, ⊎_elim, inl, inr, List, [], ◌∷◌, ◌++◌, Any, Contains, Bool, true, false, refl, subst}
use Rattle.std.proofs.lemmas.List.Quantifiers.{Any-push}
use Rattle.std.proofs.lemmas.List.Elements.{Contains-append_cases, Contains-append_left, Contains-append_right}
use Rattle.emc_base.proofs.Lists.{only_member}
use Rattle.emc_base.proofs.Members.{contains_head}

module _ {X : Type 0} where
  -- one item more is the last
  pub push_cases : (xs : List X) (x y : X) → Contains (xs ++ x ∷ []) y → Contains xs y ⊎ (y ≡ x)
  push_cases xs x y has = ⊎_elim (λ (old : Contains xs y). inl old) (λ (last : Contains (x ∷ []) y). inr (only_member (x ∷ []) x y refl last))
      (Contains-append_cases xs (x ∷ []) y has)

  pub push_old : (xs : List X) (x y : X) → Contains xs y → Contains (xs ++ x ∷ []) y
  push_old xs x y has = Contains-append_left xs (x ∷ []) y has

  pub push_last : (xs : List X) (x : X) → Contains (xs ++ x ∷ []) x
  push_last xs x = Contains-append_right xs (x ∷ []) x (contains_head x [])

-- a test isn't both
pub clash : (b : Bool) → b ≡ true → b ≡ false → ⊥
clash true holds fails = cc
clash false holds fails = cc

pub false_from : (b : Bool) → (b ≡ true → ⊥) → b ≡ false
false_from true never = absurd (never refl)
false_from false never = refl

-- something holds of some item of a list with one more just where it holds of one of the list, or of this one
pub any_push : {X : Type 0} (P : X → Type 0) (xs : List X) (x : X) → Any P (xs ++ x ∷ []) ↔ (Any P xs ⊎ P x)
any_push {X} P xs x = (
  (λ some. ⊎_elim
      (λ (before : Contains xs some.1). inl (before.0, some.1, before.1, before.2, some.4))
      (λ (last : some.1 ≡ x). inr (subst P last some.4))
      (push_cases xs x some.1 (some.0, some.2, some.3))),
  (λ either. ⊎_elim
      (λ (before : Any P xs). let has : Contains (xs ++ x ∷ []) before.1 = push_old xs x before.1 (before.0, before.2, before.3) in
      (has.0, before.1, has.1, has.2, before.4))
      (λ (last : P x). Any-push P xs x last)
      either),
)

-- so what is listed goes on being listed
pub listed_more : {X : Type 0} (P : X → Type 0) (xs : List X) (x : X) (was now : Type 0) → (was ↔ Any P xs) → (now ↔ (was ⊎ P x)) → now ↔ Any P (xs ++ x ∷ [])
listed_more P xs x was now known more = (
  (λ is. (any_push P xs x).1 (⊎_elim (λ (before : was). inl (known.0 before)) (λ (last : P x). inr last) (more.0 is))),
  (λ any. more.1 (⊎_elim (λ (before : Any P xs). inl (known.1 before)) (λ (last : P x). inr last) ((any_push P xs x).0 any))),
)
