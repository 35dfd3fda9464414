-- A loop that passes items until one of them gives something.
use Rattle.std.proofs.Common.{◌≡◌, ◌+◌, ◌<◌, ◌≤◌, ℕ, List, [], ◌++◌, flat_map, length, take, drop, get_or, slice_get, Some, sym, ap, subst, ◌∙◌}
use Rattle.std.specs.List.{enumerate_from}
use Rattle.std.proofs.lemmas.List.{take-append-drop}
use Rattle.std.proofs.lemmas.List.Concat.{flat_map-append}
use Rattle.emc_base.specs.Lists.{At}
use Rattle.emc_base.proofs.Loops.{at_enumerated, take-enumerated}
use Rattle.region_partition.proofs.region_lists.Taken.{flat_map_taken}
use Rattle.region_partition.proofs.mapping_limits.Firsts.{first_before}

module _ {X Y : Type 0} (f : X → List Y) (xs : List X) (i : ℕ) (x : X) (here : At xs i x) (none : flat_map f (take i xs) ≡ []) where
  -- with one item more they give what this gives
  one_gives : flat_map f (take (i + 1) xs) ≡ f x
  one_gives = flat_map_taken f xs i x here ∙ ap (λ ys. ys ++ f x) none

  -- and nothing, if this gives nothing
  pub none_further : f x ≡ [] → flat_map f (take (i + 1) xs) ≡ []
  none_further next = one_gives ∙ next

  -- what this gives first all of them give first
  pub first_here : (y : Y) → slice_get (f x) 0 ≡ Some y → slice_get (flat_map f xs) 0 ≡ Some y
  first_here y is =
      let rest = drop (i + 1) xs in
      let split = ap (flat_map f) (sym (take-append-drop (i + 1) xs)) ∙ flat_map-append f (take (i + 1) xs) rest ∙ ap (λ ys. ys ++ flat_map f rest) one_gives in
      ap (λ ys. slice_get ys 0) split ∙ first_before (f x) (flat_map f rest) y is

-- a loop over the numbered items of a slice, which are those of a list
module _ {X : Type 0} (xs items : List X) (same : items ≡ xs) (i : ℕ) where
  -- its turn is at a numbered item of the list
  pub numbered_here : (x : X) → i < length items → x ≡ get_or items i x → At (enumerate_from 0 xs) i (i, x)
  numbered_here x within is = let Here : List X → Type 0 = λ list. At (enumerate_from 0 list) i (i, x) in subst Here same (at_enumerated items i x within is)

  -- after its last turn none has given anything
  pub none_at_all : {Y : Type 0} (f : ℕ × X → List Y) → length items ≤ i → flat_map f (take i (enumerate_from 0 xs)) ≡ [] → flat_map f (enumerate_from 0 xs) ≡ []
  none_at_all f end none = let Past : List X → Type 0 = λ list. length list ≤ i in ap (flat_map f) (sym (take-enumerated xs i (subst Past same end))) ∙ none
