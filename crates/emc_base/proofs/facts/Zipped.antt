-- Two lists side by side: they are as long, and what stands at one place in both goes together.
use Rattle.std.proofs.Common.{◌≡◌, ℕ, zero, suc, List, [], ◌∷◌, ◌++◌, length, slice_get, MatchOption, Option, Some, None, refl, ap, subst}
use Rattle.std.specs.List.{AllZip}
use Rattle.std.specs.Option.{IsSomeAnd}
use Rattle.std.proofs.lemmas.Slice.Zip.{AllZip-left, AllZip-right}
use Rattle.emc_base.specs.Lists.{At}

module _ {X Y : Type 0} (R : X → Y → Type 0) where
  pub zip_long : (xs : List X) (ys : List Y) → AllZip R xs ys → length xs ≡ length ys
  zip_long [] [] all = refl
  zip_long [] (y ∷ ys) all = absurd all
  zip_long (x ∷ xs) [] all = absurd all
  zip_long (x ∷ xs) (y ∷ ys) all = ap suc (zip_long xs ys all.1)

  -- one more of each
  pub zip_push : (xs : List X) (ys : List Y) (x : X) (y : Y) → AllZip R xs ys → R x y → AllZip R (xs ++ x ∷ []) (ys ++ y ∷ [])
  zip_push [] [] x y all one = (one, tt)
  zip_push [] (w ∷ ys) x y all one = absurd all
  zip_push (z ∷ xs) [] x y all one = absurd all
  zip_push (z ∷ xs) (w ∷ ys) x y all one = (all.0, zip_push xs ys x y all.1 one)

  -- two items at one place
  pub zip_at : (xs : List X) (ys : List Y) (i : ℕ) (x : X) (y : Y) → AllZip R xs ys → At xs i x → At ys i y → R x y
  zip_at [] ys i x y all one other = absurd cc
  zip_at (z ∷ xs) [] i x y all one other = absurd cc
  zip_at (z ∷ xs) (w ∷ ys) zero x y all one other = subst (λ (u : X). R u y) (at_head z xs x one) (subst (R z) (at_head w ys y other) all.0)
    where
      at_head : {Z : Type 0} (u : Z) (us : List Z) (v : Z) → At (u ∷ us) 0 v → u ≡ v
      at_head u us v is = cc
  zip_at (z ∷ xs) (w ∷ ys) (suc i) x y all one other = zip_at xs ys i x y all.1 one other

  -- beside an item of the first list stands one of the second
  pub zipped_left : (xs : List X) (ys : List Y) → AllZip R xs ys → (i : ℕ) (x : X) → At xs i x → (y : Y) × At ys i y × R x y
  zipped_left xs ys zipped i x here =
      let P : Option X → Type 0 = λ found. MatchOption found (Unit {0}) (λ one. IsSomeAnd (slice_get ys i) (R one)) in
      by (slice_get ys i) refl (subst P here (AllZip-left R xs ys zipped i))
    where
      by : (found : Option Y) → slice_get ys i ≡ found → IsSomeAnd found (R x) → (y : Y) × At ys i y × R x y
      by None none never = absurd never
      by (Some y) at holds = (y, at, holds)

  -- and beside one of the second one of the first
  pub zipped_right : (xs : List X) (ys : List Y) → AllZip R xs ys → (i : ℕ) (y : Y) → At ys i y → (x : X) × At xs i x × R x y
  zipped_right xs ys zipped i y here =
      let P : Option Y → Type 0 = λ found. MatchOption found (Unit {0}) (λ one. IsSomeAnd (slice_get xs i) (λ x. R x one)) in
      by (slice_get xs i) refl (subst P here (AllZip-right R xs ys zipped i))
    where
      by : (found : Option X) → slice_get xs i ≡ found → IsSomeAnd found (λ x. R x y) → (x : X) × At xs i x × R x y
      by None none never = absurd never
      by (Some x) at holds = (x, at, holds)
