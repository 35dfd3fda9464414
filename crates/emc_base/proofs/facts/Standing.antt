-- Members and their places: a list that isn't empty has one, and a member of which something holds is the first or a later one.
use Rattle.std.proofs.Common.{◌≡◌, ◌≢◌, ◌⊎◌, inl, inr, ℕ, zero, suc, ◌<◌, List, [], ◌∷◌, length, get_or, Any, Contains, refl, sym, subst, ◌∙◌, arith}
use Rattle.std.proofs.Common.{Some}
use Rattle.std.proofs.lemmas.Option.{slice_get-get_or}
use Rattle.emc_base.specs.Lists.{At}
use Rattle.emc_base.proofs.Members.{contains_head}

-- a member has a place
pub place_of_member : {X : Type 0} (xs : List X) (x : X) → (has : Contains xs x) → At xs has.0 x
place_of_member xs x has = slice_get-get_or xs has.0 x has.1 ∙ (let same : get_or xs has.0 x ≡ x = has.2 in λ i. Some (same i))

-- a list that isn't empty has a member
pub some_item : {X : Type 0} (xs : List X) → xs ≢ [] → (x : X) × Contains xs x
some_item [] some = absurd (some refl)
some_item (x ∷ xs) some = (x, contains_head x xs)

-- one without members is empty
pub none_stands : {X : Type 0} (xs : List X) → ((x : X) → Contains xs x → ⊥) → xs ≡ []
none_stands [] none = refl
none_stands (x ∷ xs) none = absurd (none x (contains_head x xs))

-- what holds of some item holds of the first or of a later one
pub any_cases : {X : Type 0} (P : X → Type 0) (x : X) (xs : List X) → Any P (x ∷ xs) → P x ⊎ Any P xs
any_cases {X} P x xs any = go any.0 any.1 any.2 any.3 any.4
  where
    go : (k : ℕ) (y : X) → k < length (x ∷ xs) → get_or (x ∷ xs) k y ≡ y → P y → P x ⊎ Any P xs
    go zero y within is holds = inl (subst P (sym is) holds)
    go (suc k) y within is holds = inr (k, y, omega arith, is, holds)
