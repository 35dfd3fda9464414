-- Images of items, and lists that items give.
use Rattle.std.proofs.Common.{◌≡◌, ℕ, ◌+◌, List, [], ◌∷◌, ◌++◌, append-nil, length, map, take, slice_get, Contains, Option, Some, None, option_map, refl, sym, ap, ◌∙◌}
use Rattle.std.specs.List.{enumerate_from, flat_map}
use Rattle.std.proofs.lemmas.List.{length-map}
use Rattle.std.proofs.lemmas.List.Concat.{flat_map-append}
use Rattle.std.proofs.lemmas.Option.{slice_get-map}
use Rattle.emc_base.specs.Lists.{At}
use Rattle.emc_base.proofs.Loops.{take_item}
use Rattle.emc_base.proofs.Members.{contains_head, contains_tail}
use Rattle.emc_base.proofs.Numbered.{numbered_at}

-- an image at a place is that of the item there
pub map_at : {X Y : Type 0} (f : X → Y) (xs : List X) (i : ℕ) (y : Y) → At (map f xs) i y → (x : X) × At xs i x × (f x ≡ y)
map_at {X} {Y} f xs i y here = by (slice_get xs i) refl (sym (slice_get-map f xs i) ∙ here)
  where
    by : (found : Option X) → slice_get xs i ≡ found → option_map f found ≡ Some y → (x : X) × At xs i x × (f x ≡ y)
    by None is same = absurd cc
    by (Some x) is same = (x, is, cc)

-- lists with the same images are as long
pub same_length : {X Y Z : Type 0} (f : X → Z) (g : Y → Z) (xs : List X) (ys : List Y) → map f xs ≡ map g ys → length xs ≡ length ys
same_length f g xs ys same = sym (length-map xs f) ∙ ap length same ∙ length-map ys g

-- what gives the same of each member gives the same of them all
pub flat_map_agree : {X Y : Type 0} (f g : X → List Y) (xs : List X) → ((x : X) → Contains xs x → f x ≡ g x) → flat_map f xs ≡ flat_map g xs
flat_map_agree f g [] each = refl
flat_map_agree f g (x ∷ xs) each =
    let head : f x ≡ g x = each x (contains_head x xs) in
    let rest : flat_map f xs ≡ flat_map g xs = flat_map_agree f g xs (λ y has. each y (contains_tail x xs y has)) in
    λ k. head k ++ rest k

-- one more item, with its number, gives some more
pub one_more_gives : {X Y : Type 0} (f : ℕ × X → List Y) (xs : List X) (i : ℕ) (x : X) → At xs i x
    → flat_map f (take (i + 1) (enumerate_from 0 xs)) ≡ flat_map f (take i (enumerate_from 0 xs)) ++ f (i, x)
one_more_gives f xs i x here =
    let passed = take i (enumerate_from 0 xs) in
    ap (flat_map f) (take_item (enumerate_from 0 xs) i (i, x) (numbered_at xs i x here))
    ∙ flat_map-append f passed ((i, x) ∷ [])
    ∙ ap (λ ys. flat_map f passed ++ ys) (append-nil (f (i, x)))
