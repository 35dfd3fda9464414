-- Turns of loops that put what they find behind what stood there before; what is found in lists that are put side by side.
use Rattle.std.proofs.Common.{◌≡◌, ℕ, ◌+◌, List, [], ◌∷◌, ◌++◌, append_assoc, map, take, Option, None, refl, sym, ap, ◌∙◌}
use Rattle.std.specs.List.{cons_option, filter_map, flat_map}
use Rattle.std.proofs.lemmas.List.Concat.{flat_map-cons}
use Rattle.std.proofs.lemmas.List.Elements.{filter_map-append}
use Rattle.emc_base.specs.Lists.{At}
use Rattle.emc_base.proofs.Turns.{flat_more, found_more}

-- one more item is looked up
pub found_behind : {X Y : Type 0} (h : X → Option Y) (before made : List Y) (items : List X) (i : ℕ) (item : X) (found : Option Y)
    → made ≡ before ++ filter_map h (take i items) → At items i item → found ≡ h item → made ++ cons_option found [] ≡ before ++ filter_map h (take (i + 1) items)
found_behind h before made items i item found so here is =
    ap (λ xs. xs ++ cons_option found []) so
    ∙ append_assoc before (filter_map h (take i items)) (cons_option found [])
    ∙ ap (λ more. before ++ more) (found_more h items i item (filter_map h (take i items)) found refl here is)

-- one more item gives some
pub flat_behind : {X Y : Type 0} (f : X → List Y) (before made : List Y) (items : List X) (i : ℕ) (item : X)
    → made ≡ before ++ flat_map f (take i items) → At items i item → made ++ f item ≡ before ++ flat_map f (take (i + 1) items)
flat_behind f before made items i item so here =
    ap (λ xs. xs ++ f item) so
    ∙ append_assoc before (flat_map f (take i items)) (f item)
    ∙ ap (λ more. before ++ more) (flat_more f items i item (flat_map f (take i items)) refl here)

-- what is found in lists side by side is what is found in each
pub found_in_all : {X Y Z : Type 0} (h : Y → Option Z) (g : X → List Y) (xs : List X) → filter_map h (flat_map g xs) ≡ flat_map (λ x. filter_map h (g x)) xs
found_in_all h g [] = refl
found_in_all h g (x ∷ xs) =
    ap (filter_map h) (flat_map-cons g x xs)
    ∙ filter_map-append h (g x) (flat_map g xs)
    ∙ ap (λ more. filter_map h (g x) ++ more) (found_in_all h g xs)
    ∙ sym (flat_map-cons (λ y. filter_map h (g y)) x xs)

-- what is found of images is found by the items
pub found_by_images : {X Y Z : Type 0} (h : Y → Option Z) (g : X → Y) (xs : List X) → filter_map h (map g xs) ≡ filter_map (λ x. h (g x)) xs
found_by_images h g [] = refl
found_by_images h g (x ∷ xs) = ap (cons_option (h (g x))) (found_by_images h g xs)

-- where nothing is found, there is nothing
pub none_found : {X Y : Type 0} (h : X → Option Y) (xs : List X) → ((x : X) → h x ≡ None) → filter_map h xs ≡ []
none_found h [] none = refl
none_found h (x ∷ xs) none = (λ k. cons_option (none x k) (filter_map h xs)) ∙ none_found h xs none

pub none_given : {X Y : Type 0} (f : X → List Y) (xs : List X) → ((x : X) → f x ≡ []) → flat_map f xs ≡ []
none_given f [] none = refl
none_given f (x ∷ xs) none = flat_map-cons f x xs ∙ (λ k. none x k ++ flat_map f xs) ∙ none_given f xs none
