-- Lists that are the images of others, place by place.
use Rattle.std.proofs.Common.{◌≡◌, ℕ, ◌<◌, List, length, get_or, map, refl, sym, subst}
use Rattle.std.proofs.lemmas.List.{length-map}
use Rattle.std.proofs.lemmas.Option.{slice_get_read}
use Rattle.emc_base.specs.Lists.{At}
use Rattle.emc_base.proofs.Joined.{at_map}
use Rattle.emc_base.proofs.Lists.{at_once}

module _ {X Y : Type 0} (f : X → Y) (xs : List X) (ys : List Y) (are : ys ≡ map f xs) (i : ℕ) where
  -- each place of the one is one of the other
  image_within : i < length xs → i < length ys
  image_within within = subst (λ (list : List Y). i < length list) (sym are) (subst (λ (n : ℕ). i < n) (sym (length-map xs f)) within)

  -- and has the image of what stands there
  pub image_here : (x : X) (y : Y) → At xs i x → i < length xs → y ≡ get_or ys i y → y ≡ f x
  image_here x y at within is =
      at_once ys i y (f x) (slice_get_read ys (length ys) i y refl (image_within within) is) (subst (λ (list : List Y). At list i (f x)) (sym are) (at_map f xs i x at))
