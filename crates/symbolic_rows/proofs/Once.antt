-- One item more behind a list of which each item is kept once.
use Rattle.std.proofs.Common.{◌≡◌, List, [], ◌∷◌, ◌++◌, append-nil, cond, filter, Any, Contains, Bool, true, false, not, ◌||◌, Decides, if◌then◌else◌, refl, sym, ap, subst, ◌∙◌}
use Rattle.std.specs.List.{list_any}
use Rattle.std.proofs.lemmas.Bool.Decides.{Decides-like, same_from_decides}
use Rattle.std.proofs.lemmas.List.Elements.{filter-append}
use Rattle.schema_laws.proofs.state_demand.lists.Lists.{Decides-any, any_of, of_any}
use Rattle.regions.specs.Lists.{firsts}
use Rattle.regions.proofs.region_laws.lists.Firsts.{in_firsts, of_firsts}

module _ {X : Type 0} (same : X → X → Bool) (decides : (x y : X) → Decides (same x y) (x ≡ y)) (y : X) where
  -- whether it stands in a list
  abbrev is_there : List X → Bool
  is_there xs = list_any (λ x. same x y) xs

  Decides-there : (xs : List X) → Decides (is_there xs) (Contains xs y)
  Decides-there xs = Decides-like (is_there xs)
      (λ (any : Any (λ x. x ≡ y) xs). let found = of_any (λ x. x ≡ y) xs any in subst (Contains xs) found.2 found.1)
      (λ has. any_of (λ x. x ≡ y) xs y has refl)
      (Decides-any (λ x. same x y) (λ x. x ≡ y) (λ x. decides x y) xs)

  -- no other items stand among those that are kept
  there_alike : (xs : List X) → is_there (firsts same xs) ≡ is_there xs
  there_alike xs = same_from_decides (is_there (firsts same xs)) (is_there xs)
      (Decides-like (is_there (firsts same xs)) (of_firsts same decides xs y) (in_firsts same decides xs y) (Decides-there (firsts same xs)))
      (Decides-there xs)

  abbrev with_y : Bool → List X → List X
  with_y there xs = if there then xs else (xs ++ y ∷ [])

  filter_with : (x : X) (xs : List X) (b : Bool) → same x y ≡ b → (there : Bool)
      → x ∷ filter (λ other. not (same x other)) (with_y there xs) ≡ with_y (b || there) (x ∷ filter (λ other. not (same x other)) xs)
  filter_with x xs true is true = refl
  filter_with x xs false is true = refl
  filter_with x xs b is false =
      let p : X → Bool = λ other. not (same x other) in
      ap (λ ys. x ∷ ys) (filter-append p xs (y ∷ [])) ∙ ap (λ c. x ∷ (filter p xs ++ cond (not c) (y ∷ []) [])) is ∙ last b
    where
      last : (c : Bool) → x ∷ (filter (λ other. not (same x other)) xs ++ cond (not c) (y ∷ []) []) ≡ with_y (c || false) (x ∷ filter (λ other. not (same x other)) xs)
      last true = ap (λ ys. x ∷ ys) (append-nil (filter (λ other. not (same x other)) xs))
      last false = refl

  by_all : (xs : List X) → firsts same (xs ++ y ∷ []) ≡ with_y (is_there xs) (firsts same xs)
  by_all [] = refl
  by_all (x ∷ xs) = ap (λ ys. x ∷ filter (λ other. not (same x other)) ys) (by_all xs) ∙ filter_with x (firsts same xs) (same x y) refl (is_there xs)

  -- it comes behind, unless it stands there already
  pub one_more_once : (xs : List X) → firsts same (xs ++ y ∷ []) ≡ (if list_any (λ x. same x y) (firsts same xs) then firsts same xs else (firsts same xs ++ y ∷ []))
  one_more_once xs = by_all xs ∙ ap (λ there. with_y there (firsts same xs)) (sym (there_alike xs))
