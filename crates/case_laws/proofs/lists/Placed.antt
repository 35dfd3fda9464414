-- What is made of the items of a list and their places.
use Rattle.std.proofs.Common.{◌≡◌, ◌<◌, ℕ, List, length, map, option_map, Some, sym, ap, subst, ◌∙◌}
use Rattle.std.specs.List.{enumerate_from}
use Rattle.std.proofs.lemmas.List.FromFn.{length-enumerate_from}
use Rattle.std.proofs.lemmas.Option.{slice_get-map, slice_get_within}
use Rattle.emc_base.specs.Lists.{At}
use Rattle.emc_base.proofs.Lists.{item_at}
use Rattle.emc_base.proofs.Numbered.{numbered_at}
use Rattle.emc_base.proofs.facts.Images.{map_at}

module _ {X Y : Type 0} (f : ℕ × X → Y) (xs : List X) (i : ℕ) where
  pub made_at : (x : X) → At xs i x → At (map f (enumerate_from 0 xs)) i (f (i, x))
  made_at x here = slice_get-map f (enumerate_from 0 xs) i ∙ ap (option_map f) (numbered_at xs i x here)

  pub made_from : (y : Y) → At (map f (enumerate_from 0 xs)) i y → (x : X) × At xs i x × (y ≡ f (i, x))
  made_from y here =
      let image = map_at f (enumerate_from 0 xs) i y here in
      let within : i < length xs = subst (λ n. i < n) (length-enumerate_from 0 xs) (slice_get_within (enumerate_from 0 xs) i image.0 image.1) in
      let found = item_at xs i within in
      let same : Some (i, found.0) ≡ Some image.0 = sym (numbered_at xs i found.0 found.1) ∙ image.1 in
      let is : (i, found.0) ≡ image.0 = cc in
      (found.0, found.1, sym image.2 ∙ ap f (sym is))
