-- What is left of a list where some items were passed.
use Rattle.std.proofs.Common.{◌≡◌, ◌+◌, ℕ, List, ◌∷◌, cond, drop, filter, Bool, true, false, ap, ◌∙◌}
use Rattle.std.proofs.lemmas.List.{drop_more}
use Rattle.std.proofs.lemmas.Option.{get_or_from_slice_get, slice_get_within}
use Rattle.emc_base.specs.Lists.{At}

module _ {X : Type 0} (xs : List X) (i : ℕ) (x : X) (here : At xs i x) where
  -- the item at the place, and what stands behind it
  pub drop_item : drop i xs ≡ x ∷ drop (i + 1) xs
  drop_item = drop_more xs i x (slice_get_within xs i x here) ∙ ap (λ y. y ∷ drop (i + 1) xs) (get_or_from_slice_get xs i x x here)

  module _ (p : X → Bool) where
    abbrev rest : List X
    rest = filter p (drop (i + 1) xs)

    -- the item passes a test
    pub item_kept : p x ≡ true → filter p (drop i xs) ≡ x ∷ filter p (drop (i + 1) xs)
    item_kept passes = ap (filter p) drop_item ∙ ap (λ b. cond b (x ∷ rest) rest) passes

    -- or it doesn't
    pub item_left : p x ≡ false → filter p (drop i xs) ≡ filter p (drop (i + 1) xs)
    item_left fails = ap (filter p) drop_item ∙ ap (λ b. cond b (x ∷ rest) rest) fails
