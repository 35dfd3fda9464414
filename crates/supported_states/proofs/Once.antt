-- Lists with each item once: what they have in common with the lists that they are made from.
use Rattle.std.proofs.Common.{◌≡◌, ◌||◌, List, [], ◌∷◌, ◌++◌, filter, flat_map, cond, Bool, true, false, Contains, Decides, refl, sym, ap, ◌∙◌}
use Rattle.std.specs.List.{list_any}
use Rattle.std.proofs.lemmas.Bool.{cond-false, cond-true}
use Rattle.std.proofs.lemmas.Bool.Decides.{same_from_decides}
use Rattle.std.proofs.lemmas.List.Folds.{list_any-append}
use Rattle.emc_base.proofs.FoundItems.{contains_flat_map}
use Rattle.emc_base.proofs.Joined.{filter-drops, filter-keeps}
use Rattle.emc_base.proofs.Mapped.{contains_filter}
use Rattle.emc_base.proofs.Members.{contains_head, contains_tail}
use Rattle.emc_base.proofs.Numbered.{filter_contains}
use Rattle.schema_laws.specs.state_demand.MadeTables.{distinct}
use Rattle.schema_laws.proofs.state_demand.lists.Distinct.{contains_distinct, member_of_distinct}
use Rattle.population.proofs.supporting.Least.{Decides-among}

module _ {X : Type 0} (same : X → X → Bool) (decides : (x y : X) → Decides (same x y) (x ≡ y)) where
  abbrev once : List X → List X
  once xs = distinct same xs

  abbrev has : X → List X → Bool
  has x xs = list_any (same x) xs

  -- an item that stands in the rest is left out
  out : (x : X) (xs : List X) → has x xs ≡ true → once (x ∷ xs) ≡ once xs
  out x xs told = cond-true (has x xs) (once xs) (x ∷ once xs) told

  stays : (x : X) (xs : List X) → has x xs ≡ false → once (x ∷ xs) ≡ x ∷ once xs
  stays x xs told = cond-false (has x xs) (once xs) (x ∷ once xs) told

  -- the same items stand in it
  has_once : (x : X) (xs : List X) → has x (once xs) ≡ has x xs
  has_once x xs = same_from_decides (has x (once xs)) (has x xs)
      ((λ told. member_of_distinct same decides xs x ((Decides-among same decides (once xs) x).0 told)), (λ is. (Decides-among same decides (once xs) x).1 (contains_distinct same decides xs x is)))
      (Decides-among same decides xs x)

  -- lists that have the same once have the same items
  has_same : (x : X) (xs ys : List X) → once xs ≡ once ys → has x xs ≡ has x ys
  has_same x xs ys is = sym (has_once x xs) ∙ ap (has x) is ∙ has_once x ys

  -- behind a list
  pub behind : (xs ys zs : List X) → once ys ≡ once zs → once (xs ++ ys) ≡ once (xs ++ zs)
  behind [] ys zs is = is
  behind (x ∷ xs) ys zs is =
      let rest = behind xs ys zs is in
      let tests : has x (xs ++ ys) ≡ has x (xs ++ zs) = list_any-append (same x) xs ys ∙ ap (λ b. has x xs || b) (has_same x ys zs is) ∙ sym (list_any-append (same x) xs zs) in
      λ k. cond (tests k) (rest k) (x ∷ rest k)

  -- what stands behind anyway needn't stand before it
  within : (xs ys : List X) → ((x : X) → Contains xs x → Contains ys x) → once (xs ++ ys) ≡ once ys
  within [] ys inside = refl
  within (x ∷ xs) ys inside =
      let there : has x ys ≡ true = (Decides-among same decides ys x).1 (inside x (contains_head x xs)) in
      out x (xs ++ ys) (list_any-append (same x) xs ys ∙ ap (λ b. has x xs || b) there ∙ or-true (has x xs))
      ∙ within xs ys (λ y is. inside y (contains_tail x xs y is))
    where
      or-true : (b : Bool) → (b || true) ≡ true
      or-true true = refl
      or-true false = refl

  -- once more is the same
  pub once_once : (xs : List X) → once (once xs) ≡ once xs
  once_once [] = refl
  once_once (x ∷ xs) = by (has x xs) refl (once_once xs)
    where
      by : (told : Bool) → has x xs ≡ told → once (once xs) ≡ once xs → once (once (x ∷ xs)) ≡ once (x ∷ xs)
      by true told rest = ap once (out x xs told) ∙ rest ∙ sym (out x xs told)
      by false told rest = ap once (stays x xs told) ∙ stays x (once xs) (has_once x xs ∙ told) ∙ ap (λ list. x ∷ list) rest ∙ sym (stays x xs told)

  -- what steps find from a list is what they find from its items once
  pub flat_once : (f : X → List X) (xs : List X) → once (flat_map f xs) ≡ once (flat_map f (once xs))
  flat_once f [] = refl
  flat_once f (x ∷ xs) = by (has x xs) refl (flat_once f xs)
    where
      by : (told : Bool) → has x xs ≡ told → once (flat_map f xs) ≡ once (flat_map f (once xs)) → once (flat_map f (x ∷ xs)) ≡ once (flat_map f (once (x ∷ xs)))
      by true told rest =
          within (f x) (flat_map f xs) (λ y is. contains_flat_map f xs x y ((Decides-among same decides xs x).0 told) is)
          ∙ rest ∙ sym (ap (λ list. once (flat_map f list)) (out x xs told))
      by false told rest = behind (f x) (flat_map f xs) (flat_map f (once xs)) rest ∙ sym (ap (λ list. once (flat_map f list)) (stays x xs told))

  -- a test may come before or after
  pub filter_once : (p : X → Bool) (xs : List X) → once (filter p xs) ≡ filter p (once xs)
  filter_once p [] = refl
  filter_once p (x ∷ xs) = by (p x) (has x xs) refl refl (filter_once p xs)
    where
      kept : p x ≡ true → has x (filter p xs) ≡ has x xs
      kept passes = same_from_decides (has x (filter p xs)) (has x xs)
          ((λ told. (filter_contains p xs x ((Decides-among same decides (filter p xs) x).0 told)).0), (λ is. (Decides-among same decides (filter p xs) x).1 (contains_filter p xs x is passes)))
          (Decides-among same decides xs x)

      by : (passes told : Bool) → p x ≡ passes → has x xs ≡ told → once (filter p xs) ≡ filter p (once xs) → once (filter p (x ∷ xs)) ≡ filter p (once (x ∷ xs))
      by true true passes told rest =
          ap once (filter-keeps p x xs passes) ∙ out x (filter p xs) (kept passes ∙ told) ∙ rest ∙ sym (ap (filter p) (out x xs told))
      by true false passes told rest =
          ap once (filter-keeps p x xs passes) ∙ stays x (filter p xs) (kept passes ∙ told) ∙ ap (λ list. x ∷ list) rest
          ∙ sym (ap (filter p) (stays x xs told) ∙ filter-keeps p x (once xs) passes)
      by false true fails told rest = ap once (filter-drops p x xs fails) ∙ rest ∙ sym (ap (filter p) (out x xs told))
      by false false fails told rest = ap once (filter-drops p x xs fails) ∙ rest ∙ sym (ap (filter p) (stays x xs told) ∙ filter-drops p x (once xs) fails)

  -- the items before others once
  front : (xs ys : List X) → once (xs ++ ys) ≡ once (once xs ++ ys)
  front [] ys = refl
  front (x ∷ xs) ys = by (has x xs) refl (front xs ys)
    where
      by : (told : Bool) → has x xs ≡ told → once (xs ++ ys) ≡ once (once xs ++ ys) → once (x ∷ (xs ++ ys)) ≡ once (once (x ∷ xs) ++ ys)
      by true told rest =
          out x (xs ++ ys) (list_any-append (same x) xs ys ∙ ap (λ b. b || has x ys) told)
          ∙ rest ∙ sym (ap (λ list. once (list ++ ys)) (out x xs told))
      by false told rest =
          let tests : has x (xs ++ ys) ≡ has x (once xs ++ ys) = has_same x (xs ++ ys) (once xs ++ ys) rest in
          (λ k. cond (tests k) (rest k) (x ∷ rest k)) ∙ sym (ap (λ list. once (list ++ ys)) (stays x xs told))

  -- before and behind
  pub both_once : (xs ys zs ws : List X) → once xs ≡ once ys → once zs ≡ once ws → once (xs ++ zs) ≡ once (ys ++ ws)
  both_once xs ys zs ws first second =
      front xs zs ∙ ap (λ list. once (list ++ zs)) first ∙ sym (front ys zs) ∙ behind ys zs ws second
