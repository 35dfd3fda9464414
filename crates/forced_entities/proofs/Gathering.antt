-- Lists that are gathered item by item.
use Rattle.std.proofs.Common.{◌≡◌, ℕ, ◌+◌, List, [], ◌∷◌, ◌++◌, append-nil, filter, flat_map, take, Bool, refl, sym, ap, ◌∙◌}
use Rattle.std.proofs.lemmas.List.Elements.{filter-append}
use Rattle.std.proofs.lemmas.Grind.{flat_map-append}
use Rattle.emc_base.specs.Lists.{At}
use Rattle.emc_base.proofs.Loops.{take_item}

-- one item more
pub gathers : {X Y : Type 0} (f : X → List Y) (xs : List X) (i : ℕ) (x : X) → At xs i x → flat_map f (take i xs) ++ f x ≡ flat_map f (take (i + 1) xs)
gathers f xs i x at =
    ap (λ more. flat_map f (take i xs) ++ more) (sym (append-nil (f x))) ∙ sym (flat_map-append f (take i xs) (x ∷ [])) ∙ ap (flat_map f) (sym (take_item xs i x at))

-- what is gathered of what is gathered
pub gathers_twice : {X Y Z : Type 0} (f : Y → List Z) (p : Y → Bool) (g : X → List Y) (xs : List X)
    → flat_map (λ x. flat_map f (filter p (g x))) xs ≡ flat_map f (filter p (flat_map g xs))
gathers_twice f p g [] = refl
gathers_twice f p g (x ∷ xs) =
    ap (λ more. flat_map f (filter p (g x)) ++ more) (gathers_twice f p g xs)
    ∙ sym (flat_map-append f (filter p (g x)) (filter p (flat_map g xs)))
    ∙ ap (flat_map f) (sym (filter-append p (g x) (flat_map g xs)))
