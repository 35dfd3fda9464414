-- Lists that a loop makes item by item.
use Rattle.std.proofs.Common.{◌≡◌, ◌+◌, ◌<◌, ℕ, List, [], ◌∷◌, ◌++◌, get_or, length, map, take, sym, ap, ◌∙◌}
use Rattle.std.proofs.lemmas.List.{map-append, take_more}

-- one more is made of the next item
pub one_more_made : {X Y : Type 0} (f : X → Y) (items : List X) (i : ℕ) (d : X) → i < length items → (made after : List Y) (y : Y)
    → made ≡ map f (take i items) → after ≡ made ++ y ∷ [] → y ≡ f (get_or items i d) → after ≡ map f (take (i + 1) items)
one_more_made f items i d within made after y so_far is image =
    is ∙ (λ k. so_far k ++ image k ∷ []) ∙ sym (map-append f (take i items) (get_or items i d ∷ [])) ∙ ap (map f) (sym (take_more items i d within))
