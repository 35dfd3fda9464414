-- Lists that are made item by item, and the first places of names in a list of the names alone.
use Rattle.std.proofs.Common.{◌≡◌, ℕ, ◌+◌, List, [], ◌∷◌, ◌++◌, map, take, Bool, true, false, cond, not, nat_lt, Some, None, refl, sym, ap, ◌∙◌}
use Rattle.std.specs.Borrow.{Bor}
use Rattle.std.specs.List.{position, position_or_len}
use Rattle.std.specs.Str.{bytes_eq}
use Rattle.std.proofs.lemmas.List.{length-map, map-append}
use Rattle.emc_base.specs.Lists.{At}
use Rattle.emc_base.proofs.Loops.{take_item}
use Rattle.groupings.specs.name_places.GivenNames.{first_place}

-- one more is made, as the next item says
pub made_more : {X Y Z : Type 0} (f : X → Z) (g : Y → Z) (made : List X) (items : List Y) (i : ℕ) (x : X) (item : Y) → At items i item
    → map f made ≡ map g (take i items) → f x ≡ g item → map f (made ++ x ∷ []) ≡ map g (take (i + 1) items)
made_more f g made items i x item here same is =
    map-append f made (x ∷ [])
    ∙ (λ k. same k ++ is k ∷ [])
    ∙ sym (map-append g (take i items) (item ∷ []))
    ∙ ap (map g) (sym (take_item items i item here))

-- the first place in a list of images is that in the list
module _ {X Y : Type 0} (f : X → Y) (test : Y → Bool) where
  place-map : (xs : List X) → position_or_len test (map f xs) ≡ position_or_len (λ x. test (f x)) xs
  place-map [] = refl
  place-map (x ∷ xs) = by (test (f x)) (place-map xs)
    where
      by : (passes : Bool) → position_or_len test (map f xs) ≡ position_or_len (λ y. test (f y)) xs
          → cond (not passes) (1 + position_or_len test (map f xs)) 0 ≡ cond (not passes) (1 + position_or_len (λ y. test (f y)) xs) 0
      by true same = refl
      by false same = ap (λ (n : ℕ). 1 + n) same

  position-map : (xs : List X) → position test (map f xs) ≡ position (λ x. test (f x)) xs
  position-map xs = λ i. cond (nat_lt (place-map xs i) (length-map xs f i)) (Some (place-map xs i)) None

-- where names are those of items, their first places are those of the items
pub first_listed : {X : Type 0} (name_in : X → List ℕ) (items : List X) (names : List (Bor (List ℕ))) → map (λ given. given.now) names ≡ map name_in items
    → first_place (λ (given : Bor (List ℕ)). given.now) names ≡ first_place name_in items
first_listed name_in items names same = λ i name.
    (sym (position-map (λ (given : Bor (List ℕ)). given.now) (bytes_eq name) names)
    ∙ ap (position (bytes_eq name)) same
    ∙ position-map name_in (bytes_eq name) items) i
