-- A list with each item once.
use Rattle.std.proofs.Common.{◌≡◌, ◌≢◌, ⊎_elim, List, [], ◌∷◌, Bool, Decides, AllPairs, Any, Contains, sym, subst, arith}
use Rattle.std.specs.List.{list_any}
use Rattle.std.proofs.lemmas.Bool.{cond_both}
use Rattle.std.proofs.lemmas.Bool.Decides.{not_from_Decides}
use Rattle.std.proofs.lemmas.List.Kept.{AllPairs-cons}
use Rattle.emc_base.proofs.Lists.{all_from_members}
use Rattle.schema_laws.specs.state_demand.MadeTables.{distinct}
use Rattle.schema_laws.proofs.state_demand.lists.Lists.{Decides-any, any_of, head_stands, member_cases, of_any, tail_stands}

module _ {X : Type 0} (same : X → X → Bool) (decides : (x y : X) → Decides (same x y) (x ≡ y)) where
  among : (x : X) (xs : List X) → Decides (list_any (same x) xs) (Any (λ y. x ≡ y) xs)
  among x xs = Decides-any (same x) (λ y. x ≡ y) (decides x) xs

  -- a member stays
  pub contains_distinct : (xs : List X) (y : X) → Contains xs y → Contains (distinct same xs) y
  contains_distinct [] y has = has
  contains_distinct (x ∷ xs) y has =
      let P : List X → Type 0 = λ zs. Contains zs y in
      cond_both (list_any (same x) xs) (distinct same xs) (x ∷ distinct same xs) P
      (λ told. ⊎_elim
      (λ (here : y ≡ x).
      let found = of_any (λ z. x ≡ z) xs ((among x xs).0 told) in
      let there : Contains xs x = subst (Contains xs) (sym found.2) found.1 in
      contains_distinct xs y (subst (Contains xs) (sym here) there))
      (λ (later : Contains xs y). contains_distinct xs y later)
      (member_cases x xs y has))
      (λ told. ⊎_elim
      (λ (here : y ≡ x). subst (Contains (x ∷ distinct same xs)) (sym here) (head_stands x (distinct same xs)))
      (λ (later : Contains xs y). tail_stands x (distinct same xs) y (contains_distinct xs y later))
      (member_cases x xs y has))

  -- and nothing comes to it
  pub member_of_distinct : (xs : List X) (y : X) → Contains (distinct same xs) y → Contains xs y
  member_of_distinct [] y has = has
  member_of_distinct (x ∷ xs) y has =
      let P : List X → Type 0 = λ zs. Contains zs y → Contains (x ∷ xs) y in
      cond_both (list_any (same x) xs) (distinct same xs) (x ∷ distinct same xs) P
      (λ told stays. tail_stands x xs y (member_of_distinct xs y stays))
      (λ told stays. ⊎_elim
      (λ (here : y ≡ x). subst (Contains (x ∷ xs)) (sym here) (head_stands x xs))
      (λ (later : Contains (distinct same xs) y). tail_stands x xs y (member_of_distinct xs y later))
      (member_cases x (distinct same xs) y stays))
      has

  -- no item stands twice
  pub distinct_apart : (xs : List X) → AllPairs (λ x y. x ≢ y) (distinct same xs)
  distinct_apart [] = λ i j d below within. absurd (omega arith)
  distinct_apart (x ∷ xs) =
      let P : List X → Type 0 = λ zs. AllPairs (λ a b. a ≢ b) zs in
      cond_both (list_any (same x) xs) (distinct same xs) (x ∷ distinct same xs) P
      (λ told. distinct_apart xs)
      (λ told. AllPairs-cons (λ a b. a ≢ b) x (distinct same xs)
      (all_from_members (λ y. x ≢ y) (distinct same xs)
      (λ y has alike. not_from_Decides (list_any (same x) xs) (among x xs) told (any_of (λ z. x ≡ z) xs y (member_of_distinct xs y has) alike)))
      (distinct_apart xs))
