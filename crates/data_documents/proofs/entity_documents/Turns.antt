-- One more turn of a loop over items with their places that makes something for each.
use Rattle.std.proofs.Common.{◌≡◌, ℕ, ◌+◌, ◌<◌, List, [], ◌∷◌, ◌++◌, length, map, take, get_or, sym, ap, ◌∙◌}
use Rattle.std.specs.List.{enumerate_from}
use Rattle.std.proofs.lemmas.List.{map-append}
use Rattle.std.proofs.lemmas.Option.{get_or_from_slice_get, slice_get-get_or}
use Rattle.emc_base.specs.Lists.{At}
use Rattle.emc_base.proofs.Loops.{at_enumerated, take_item}

pub next_made : {X Y : Type 0} (f : ℕ × X → Y) (items : List X) (i : ℕ) (other : X) (made : List Y) (one : Y) → made ≡ map f (take i (enumerate_from 0 items))
    → i < length items → one ≡ f (i, get_or items i other) → made ++ one ∷ [] ≡ map f (take (i + 1) (enumerate_from 0 items))
next_made {X} {Y} f items i other made one so within is =
    let item : X = get_or items i other in
    let here : At items i item = slice_get-get_or items i other within in
    (λ k. so k ++ is k ∷ [])
    ∙ sym (map-append f (take i (enumerate_from 0 items)) ((i, item) ∷ []))
    ∙ ap (map f) (sym (take_item (enumerate_from 0 items) i (i, item) (at_enumerated items i item within (sym (get_or_from_slice_get items i item item here)))))
