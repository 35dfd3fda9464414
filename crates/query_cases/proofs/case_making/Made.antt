-- Lists that a loop makes item by item.
use Rattle.std.proofs.Common.{◌≡◌, ◌+◌, ◌<◌, ◌≤◌, ℕ, List, [], ◌∷◌, ◌++◌, map, take, length, get_or, Some, slice_get, sym, ap, subst, ◌∙◌}
use Rattle.std.specs.List.{enumerate_from}
use Rattle.std.proofs.lemmas.List.{map-append}
use Rattle.emc_base.proofs.Loops.{at_enumerated, take-enumerated, take_item}

-- one image more behind
module _ {X Y : Type 0} (f : X → Y) (xs : List X) (i : ℕ) (x : X) (here : slice_get xs i ≡ Some x) where
  pub one_more_made : (made after : List Y) (y : Y) → made ≡ map f (take i xs) → after ≡ made ++ y ∷ [] → y ≡ f x → after ≡ map f (take (i + 1) xs)
  one_more_made made after y so_far is image =
      is ∙ ap (λ ys. ys ++ y ∷ []) so_far ∙ ap (λ last. map f (take i xs) ++ last ∷ []) image
      ∙ sym (ap (map f) (take_item xs i x here) ∙ map-append f (take i xs) (x ∷ []))

-- an item of a lent list, with its number
pub numbered_item : {X : Type 0} (xs items : List X) (i : ℕ) (x : X) → items ≡ xs → i < length items → x ≡ get_or items i x
    → slice_get (enumerate_from 0 xs) i ≡ Some (i, x)
numbered_item {X} xs items i x same within is =
    let P : List X → Type 0 = λ list. slice_get (enumerate_from 0 list) i ≡ Some (i, x) in
    subst P same (at_enumerated items i x within is)

-- after the last turn
pub all_made : {X Y : Type 0} (f : ℕ × X → Y) (xs items : List X) (i : ℕ) (made : List Y) → items ≡ xs → length items ≤ i
    → made ≡ map f (take i (enumerate_from 0 xs)) → made ≡ map f (enumerate_from 0 xs)
all_made {X} f xs items i made same end is =
    let P : List X → Type 0 = λ list. take i (enumerate_from 0 list) ≡ enumerate_from 0 list in
    is ∙ ap (map f) (subst P same (take-enumerated items i end))
