-- The first place in a list at which a test passes.
use Rattle.std.proofs.Common.{◌≡◌, ℕ, ◌+◌, ◌<◌, ◌≤◌, List, [], ◌∷◌, ◌++◌, length, length-append, position, Some, None, Bool, false, cond, not, sym, ap, ◌∙◌, arith}
use Rattle.std.specs.List.{position_or_len}
use Rattle.std.specs.Option.{option_or}
use Rattle.std.proofs.lemmas.List.Folds.{position_or_len_push}
use Rattle.std.proofs.lemmas.List.Sums.{fails_before_first, prefix_len-le-length}
use Rattle.std.proofs.lemmas.List.Quantifiers.{position-Some}
use Rattle.std.proofs.lemmas.Option.{slice_get_within, get_or_from_slice_get}
use Rattle.emc_base.specs.Lists.{At}

module _ {X : Type 0} (p : X → Bool) where
  -- one item more at the end
  pub position_push : (xs : List X) (x : X) → position p (xs ++ x ∷ []) ≡ option_or (position p xs) (cond (p x) (Some (length xs)) None)
  position_push xs x =
      let within : position_or_len p xs ≤ length xs = prefix_len-le-length (λ y. not (p y)) xs in
      let longer : length (xs ++ x ∷ []) ≡ length xs + 1 = length-append xs (x ∷ []) in
      grind (arith, position_or_len_push p xs x, within, longer)

  -- and what stands before doesn't
  pub position_first : (xs : List X) (i k : ℕ) (x : X) → position p xs ≡ Some i → k < i → At xs k x → p x ≡ false
  position_first xs i k x is before here =
      ap p (sym (get_or_from_slice_get xs k x x here)) ∙ (position-Some p xs i x is).2 k before

  -- where there is no first place, nothing passes
  pub position_none : (xs : List X) (k : ℕ) (x : X) → position p xs ≡ None → At xs k x → p x ≡ false
  position_none xs k x none here =
      let inside : k < length xs = slice_get_within xs k x here in
      let past : length xs ≤ position_or_len p xs = grind arith in
      ap p (sym (get_or_from_slice_get xs k x x here)) ∙ fails_before_first p xs k x (omega arith)
