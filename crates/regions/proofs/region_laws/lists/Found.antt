-- What a filter leaves where at most one item passes, and items made of what stands at a place.
use Rattle.std.proofs.Common.{◌≡◌, ⊎_elim, ℕ, suc, List, [], ◌∷◌, cond, filter, Contains, Some, Bool, true, false, true≢false, Decides, refl, sym, ap, subst, ◌∙◌, arith}
use Rattle.std.proofs.lemmas.Option.{slice_get-get_or}
use Rattle.emc_base.specs.Lists.{At, AtMostOne}
use Rattle.schema_laws.proofs.state_demand.lists.Lists.{head_stands, member_cases, none_in_nil, tail_stands}

module _ {X : Type 0} where
  -- a member stands at a place
  pub place_of : (xs : List X) (x : X) → Contains xs x → (i : ℕ) × At xs i x
  place_of xs x has = (has.0, slice_get-get_or xs has.0 x has.1 ∙ ap Some has.2)

module _ {X : Type 0} (p : X → Bool) (P : X → Type 0) (decides : (x : X) → Decides (p x) (P x)) where
  kept : (b : Bool) (x : X) (xs : List X) → b ≡ true → cond b (x ∷ xs) xs ≡ x ∷ xs
  kept true x xs is = refl
  kept false x xs is = absurd (true≢false (sym is))

  left : (b : Bool) (x : X) (xs : List X) → (b ≡ true → ⊥) → cond b (x ∷ xs) xs ≡ xs
  left true x xs not = absurd (not refl)
  left false x xs not = refl

  -- nothing is left where nothing passes
  pub filter_none : (xs : List X) → ((x : X) → Contains xs x → ¬ P x) → filter p xs ≡ []
  filter_none [] none = refl
  filter_none (x ∷ xs) none =
      left (p x) x (filter p xs) (λ told. none x (head_stands x xs) ((decides x).0 told)) ∙ filter_none xs (λ y has. none y (tail_stands x xs y has))

  -- of a list in which at most one passes, one that passes is left
  pub filter_one : (xs : List X) → AtMostOne P xs → (x : X) → Contains xs x → P x → filter p xs ≡ x ∷ []
  filter_one [] most x has holds = absurd (none_in_nil x has)
  filter_one (y ∷ ys) most x has holds = ⊎_elim
      (λ (here : x ≡ y).
      let passes : p y ≡ true = (decides y).1 (subst P here holds) in
      kept (p y) y (filter p ys) passes
      ∙ (λ k. sym here k ∷ filter_none ys (λ z later also. apart z later (subst P here holds) also) k))
      (λ (later : Contains ys x).
      left (p y) y (filter p ys) (λ told. apart x later ((decides y).0 told) holds)
      ∙ filter_one ys (λ i j a b at_a at_b is_a is_b. let same : suc i ≡ suc j = most (suc i) (suc j) a b at_a at_b is_a is_b in omega (arith, same)) x later holds)
      (member_cases y ys x has)
    where
      apart : (z : X) → Contains ys z → P y → P z → ⊥
      apart z later first also = let place = place_of ys z later in let same : 0 ≡ suc place.0 = most 0 (suc place.0) y z refl place.1 first also in absurd (omega
          (arith, same))
