-- Turns of loops: one more item taken or mapped, and what is so after the last.
use Rattle.std.proofs.Common.{◌≡◌, ◌+◌, ◌≤◌, ℕ, List, [], ◌∷◌, ◌++◌, map, take, length, get_or, Some, slice_get, sym, ap, ◌∙◌, ◌<◌, zero-add}
use Rattle.std.proofs.lemmas.List.{take_all, take_more}
use Rattle.std.proofs.lemmas.Simd.{map-map}
use Rattle.std.specs.List.{enumerate_from}
use Rattle.std.proofs.lemmas.Option.{slice_get_within, get_or_from_slice_get, slice_get_read}
use Rattle.std.proofs.lemmas.List.FromFn.{get_or-enumerate_from, length-enumerate_from}

-- one more item is taken
pub take_item : {X : Type 0} (items : List X) (i : ℕ) (item : X) → slice_get items i ≡ Some item → take (i + 1) items ≡ take i items ++ item ∷ []
take_item items i item here =
    take_more items i item (slice_get_within items i item here)
    ∙ ap (λ last. take i items ++ last ∷ []) (get_or_from_slice_get items i item item here)

-- a loop over all items has mapped each
pub map-taken : {X Y Z : Type 0} (g : Y → Z) (f : X → Y) (items : List X) (made : List Z) (i : ℕ) → length items ≤ i
    → made ≡ map (λ item. g (f item)) (take i items) → made ≡ map g (map f items)
map-taken g f items made i end is = is ∙ ap (map (λ item. g (f item))) (take_all i items end) ∙ sym (map-map g f items)

-- an item with its place
placed : {X : Type 0} (xs : List X) (i : ℕ) (x : X) → i < length xs → x ≡ get_or xs i x → (i, x) ≡ get_or (enumerate_from 0 xs) i (i, x)
placed xs i x inside is = let n : i ≡ 0 + i = sym (zero-add i) in let both : (i, x) ≡ (0 + i, get_or xs i x) = λ k. (n k, is k) in both ∙ sym (get_or-enumerate_from 0 xs i (i, x) inside)

-- the place and the item at it
pub at_enumerated : {X : Type 0} (xs : List X) (i : ℕ) (x : X) → i < length xs → x ≡ get_or xs i x → slice_get (enumerate_from 0 xs) i ≡ Some (i, x)
at_enumerated xs i x inside is = slice_get_read (enumerate_from 0 xs) (length xs) i (i, x) (sym (length-enumerate_from 0 xs)) inside (placed xs i x inside is)

-- after the last turn
pub take-enumerated : {X : Type 0} (xs : List X) (i : ℕ) → length xs ≤ i → take i (enumerate_from 0 xs) ≡ enumerate_from 0 xs
take-enumerated xs i end = take_all i (enumerate_from 0 xs) (rw length-enumerate_from end)
