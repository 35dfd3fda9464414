-- Lists put one behind the other.
use Rattle.std.proofs.Common.{◌≡◌, ◌+◌, ◌≤◌, ℕ, List, [], ◌∷◌, ◌++◌, append_assoc, append-nil, cond, filter, flat_map, length, map, take, Bool, true, false, ◌&&◌, if◌then◌else◌, refl, sym, ap, subst, ◌∙◌}
use Rattle.std.specs.List.{enumerate_from}
use Rattle.std.proofs.lemmas.List.{map-append}
use Rattle.std.proofs.lemmas.List.Concat.{flat_map-append}
use Rattle.std.proofs.lemmas.List.Elements.{filter-append}
use Rattle.emc_base.specs.Lists.{At}
use Rattle.emc_base.proofs.Loops.{take-enumerated}
use Rattle.emc_base.proofs.facts.Images.{one_more_gives}

-- one item behind, as its image
pub behind : {X Y : Type 0} (f : X → Y) (before after : List X) (x : X) (y : Y) → after ≡ before ++ x ∷ [] → f x ≡ y → map f after ≡ map f before ++ y ∷ []
behind f before after x y is image = ap (map f) is ∙ map-append f before (x ∷ []) ∙ ap (λ one. map f before ++ one ∷ []) image

-- what one numbered item more gives, behind what stood there first
pub one_more : {X Y : Type 0} (f : ℕ × X → List Y) (xs : List X) (i : ℕ) (x : X) → At xs i x → (first so_far after : List Y)
    → so_far ≡ first ++ flat_map f (take i (enumerate_from 0 xs)) → after ≡ so_far ++ f (i, x) → after ≡ first ++ flat_map f (take (i + 1) (enumerate_from 0 xs))
one_more f xs i x here first so_far after before is =
    let passed = flat_map f (take i (enumerate_from 0 xs)) in
    is ∙ ap (λ ys. ys ++ f (i, x)) before ∙ append_assoc first passed (f (i, x)) ∙ ap (λ ys. first ++ ys) (sym (one_more_gives f xs i x here))

-- after the last turn all numbered items were passed
pub all_numbered : {X : Type 0} (xs items : List X) (i : ℕ) → items ≡ xs → length items ≤ i → take i (enumerate_from 0 xs) ≡ enumerate_from 0 xs
all_numbered xs items i same end = take-enumerated xs i (subst (λ (list : List _). length list ≤ i) same end)

-- what the items give that pass, list by list
pub by_lists : {X Y Z : Type 0} (f : Y → List Z) (p : Y → Bool) (g : X → List Y) (xs : List X)
    → flat_map f (filter p (flat_map g xs)) ≡ flat_map (λ x. flat_map f (filter p (g x))) xs
by_lists f p g [] = refl
by_lists f p g (x ∷ xs) =
    ap (flat_map f) (filter-append p (g x) (flat_map g xs)) ∙ flat_map-append f (filter p (g x)) (filter p (flat_map g xs))
    ∙ ap (λ zs. flat_map f (filter p (g x)) ++ zs) (by_lists f p g xs)

-- what one item gives that is there, and passes
pub one_passes : {X Y : Type 0} (f : X → List Y) (p : X → Bool) (x : X) (b : Bool) → true ≡ (b && p x) → flat_map f (filter p (if b then x ∷ [] else [])) ≡ f x
one_passes f p x true both = ap (λ c. flat_map f (cond c (x ∷ []) [])) (sym both) ∙ append-nil (f x)
one_passes f p x false both = absurd (cc)
