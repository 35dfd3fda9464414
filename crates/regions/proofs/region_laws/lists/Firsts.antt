-- A list with each item once, where it first stands: its members.
use Rattle.std.proofs.Common.{◌≡◌, ◌≢◌, ⊎_elim, List, [], ◌∷◌, filter, Bool, true, false, not, Decides, Contains, refl, sym, ap, subst}
use Rattle.std.proofs.lemmas.Bool.Decides.{Decides-not}
use Rattle.std.proofs.lemmas.List.Kept.{AllPairs-cons, AllPairs-filter}
use Rattle.emc_base.specs.Lists.{AreApart}
use Rattle.emc_base.proofs.Lists.{all_from_members}
use Rattle.emc_base.proofs.Mapped.{contains_filter}
use Rattle.emc_base.proofs.Numbered.{filter_contains}
use Rattle.schema_laws.proofs.state_demand.lists.Lists.{head_stands, member_cases, tail_stands}
use Rattle.regions.specs.Lists.{firsts}
use Rattle.regions.proofs.region_laws.lists.Choices.{pairs_nil}

module _ {X : Type 0} (same : X → X → Bool) (decides : (x y : X) → Decides (same x y) (x ≡ y)) where
  -- nothing comes to it
  pub of_firsts : (xs : List X) (y : X) → Contains (firsts same xs) y → Contains xs y
  of_firsts [] y has = has
  of_firsts (x ∷ xs) y has = ⊎_elim
      (λ (here : y ≡ x). subst (Contains (x ∷ xs)) (sym here) (head_stands x xs))
      (λ (later : Contains (filter (λ other. not (same x other)) (firsts same xs)) y).
      tail_stands x xs y (of_firsts xs y (filter_contains (λ other. not (same x other)) (firsts same xs) y later).0))
      (member_cases x (filter (λ other. not (same x other)) (firsts same xs)) y has)

  -- and each member stays
  pub in_firsts : (xs : List X) (y : X) → Contains xs y → Contains (firsts same xs) y
  in_firsts [] y has = has
  in_firsts (x ∷ xs) y has =
      let left : List X = filter (λ other. not (same x other)) (firsts same xs) in
      let head : x ≡ y → Contains (x ∷ left) y = λ here. subst (Contains (x ∷ left)) here (head_stands x left) in
      ⊎_elim
      (λ (here : y ≡ x). head (sym here))
      (λ (later : Contains xs y). by (same x y) refl head (in_firsts xs y later))
      (member_cases x xs y has)
    where
      by : (b : Bool) → same x y ≡ b → (x ≡ y → Contains (x ∷ filter (λ other. not (same x other)) (firsts same xs)) y) → Contains (firsts same xs) y
          → Contains (x ∷ filter (λ other. not (same x other)) (firsts same xs)) y
      by true is head later = head ((decides x y).0 is)
      by false is head later = tail_stands x (filter (λ other. not (same x other)) (firsts same xs)) y
          (contains_filter (λ other. not (same x other)) (firsts same xs) y later (ap not is))

  -- none stands twice
  pub firsts_apart : (xs : List X) → AreApart (firsts same xs)
  firsts_apart [] = pairs_nil (λ one two. one ≢ two)
  firsts_apart (x ∷ xs) =
      let differs : X → Bool = λ other. not (same x other) in
      AllPairs-cons (λ one two. one ≢ two) x (filter differs (firsts same xs))
      (all_from_members (λ y. x ≢ y) (filter differs (firsts same xs)) (λ y has.
      (Decides-not (same x y) (decides x y)).0 (filter_contains differs (firsts same xs) y has).1))
      (AllPairs-filter (λ one two. one ≢ two) differs (firsts same xs) (firsts_apart xs))
