-- What is found in a list passes the test, and what follows from something that is found.
use Rattle.std.proofs.Common.{◌≡◌, ℕ, Bool, true, false, cond, List, [], ◌∷◌, find, get_or, position, Contains, Option, Some, None, IsSome, MatchOption, refl, sym, ap, subst, ◌∙◌}
use Rattle.std.specs.Option.{option_or}
use Rattle.std.proofs.lemmas.List.Quantifiers.{position-Some}
use Rattle.std.proofs.lemmas.Option.{same_Some, slice_get-get_or}
use Rattle.emc_base.specs.Lists.{At}
use Rattle.emc_base.proofs.Members.{contains_head, contains_tail}

-- the item that is found stands in the list and passes
pub found_passes : {X : Type 0} (test : X → Bool) (xs : List X) (x : X) → find test xs ≡ Some x → Contains xs x × (test x ≡ true)
found_passes test [] x is = absurd cc
found_passes {X} test (y ∷ xs) x is = by (test y) refl is (found_passes test xs x)
  where
    by : (passes : Bool) → test y ≡ passes → cond passes (Some y) (find test xs) ≡ Some x → (find test xs ≡ Some x → Contains xs x × (test x ≡ true))
        → Contains (y ∷ xs) x × (test x ≡ true)
    by true passes first rest =
        let one : y ≡ x = same_Some y x first in
        (subst (λ (z : X). Contains (y ∷ xs) z) one (contains_head y xs), ap test (sym one) ∙ passes)
    by false fails later rest = let found = rest later in (contains_tail y xs x found.0, found.1)

-- at the place that is found stands an item that passes
pub position_passes : {X : Type 0} (p : X → Bool) (xs : List X) (i : ℕ) → position p xs ≡ Some i → (x : X) × At xs i x × (p x ≡ true)
position_passes p [] i is = cc
position_passes p (x ∷ xs) i is = let all = position-Some p (x ∷ xs) i x is in (get_or (x ∷ xs) i x, slice_get-get_or (x ∷ xs) i x all.0, all.1)

-- or else nothing
pub or_none : {X : Type 0} (found : Option X) → option_or found None ≡ found
or_none None = refl
or_none (Some x) = refl

-- something is found
pub some_found : {X : Type 0} (found : Option X) (x : X) → found ≡ Some x → IsSome found
some_found found x is = subst IsSome (sym is) refl

-- and what holds of it holds of what is found
pub where_found : {X : Type 0} (P : X → Type 0) (found : Option X) (x : X) → found ≡ Some x → P x → MatchOption found ⊥ P
where_found {X} P found x is holds = subst (λ (o : Option X). MatchOption o ⊥ P) (sym is) holds
