-- Lists side by side, and the items that stand beside others.
use Rattle.std.proofs.Common.{◌≡◌, ◌<◌, ◌+◌, ℕ, suc, List, [], ◌∷◌, ◌++◌, append_assoc, filter, map, length, take, get_or, All, Bool, true, false, Contains, refl, sym, ap, subst, ◌∙◌, arith}
use Rattle.std.specs.List.{AllZip}
use Rattle.std.proofs.lemmas.List.{get_or-take, length-take, map-append}
use Rattle.std.proofs.lemmas.Option.{get_or_from_slice_get, slice_get_within}
use Rattle.round_trip.specs.Words.{At}
use Rattle.emc_base.proofs.Lists.{item_at}
use Rattle.emc_base.proofs.Loops.{take_item}
use Rattle.emc_base.proofs.Numbered.{filter_kept, filter_left}
use Rattle.emc_base.proofs.facts.Zipped.{zip_at, zip_long, zip_push}

module _ {X Y : Type 0} (R : X → Y → Type 0) where
  -- the item beside another
  pub zip_beside : (xs : List X) (ys : List Y) (i : ℕ) (x : X) → AllZip R xs ys → At xs i x → (y : Y) × At ys i y × R x y
  zip_beside xs ys i x all here =
      let long = zip_long R xs ys all in
      let inside : i < length xs = slice_get_within xs i x here in
      let other = item_at ys i (omega (arith, long, inside)) in
      (other.0, other.1, zip_at R xs ys i x other.0 all here other.1)

  -- and that before another
  pub zip_before : (xs : List X) (ys : List Y) (i : ℕ) (y : Y) → AllZip R xs ys → At ys i y → (x : X) × At xs i x × R x y
  zip_before xs ys i y all there =
      let long = zip_long R xs ys all in
      let inside : i < length ys = slice_get_within ys i y there in
      let other = item_at xs i (omega (arith, long, inside)) in
      (other.0, other.1, zip_at R xs ys i other.0 y all other.1 there)

-- beside images of the first list, or of the second
pub zip_keyed : {X Y Z : Type 0} (R : Z → Y → Type 0) (f : X → Z) (xs : List X) (ys : List Y) → AllZip (λ x y. R (f x) y) xs ys → AllZip R (map f xs) ys
zip_keyed R f [] [] all = tt
zip_keyed R f [] (y ∷ ys) all = absurd all
zip_keyed R f (x ∷ xs) [] all = absurd all
zip_keyed R f (x ∷ xs) (y ∷ ys) all = (all.0, zip_keyed R f xs ys all.1)

pub zip_made : {X Y Z : Type 0} (R : X → Z → Type 0) (g : Y → Z) (xs : List X) (ys : List Y) → AllZip (λ x y. R x (g y)) xs ys → AllZip R xs (map g ys)
zip_made R g [] [] all = tt
zip_made R g [] (y ∷ ys) all = absurd all
zip_made R g (x ∷ xs) [] all = absurd all
zip_made R g (x ∷ xs) (y ∷ ys) all = (all.0, zip_made R g xs ys all.1)

-- what is so of each pair whose first item is a member
pub zip_members : {X Y : Type 0} (R S : X → Y → Type 0) (xs : List X) (ys : List Y) → ((x : X) (y : Y) → Contains xs x → R x y → S x y) → AllZip R xs ys → AllZip S xs ys
zip_members R S [] [] each all = tt
zip_members R S [] (y ∷ ys) each all = absurd all
zip_members R S (x ∷ xs) [] each all = absurd all
zip_members R S (x ∷ xs) (y ∷ ys) each all = (
  each x y (0, omega arith, refl) all.0,
  zip_members R S xs ys (λ z w has so. each z w (suc has.0, omega (arith, has.1), has.2) so) all.1,
)

-- the items before a place
module _ {X : Type 0} (P : X → Type 0) (xs : List X) where
  pub all_before : (n : ℕ) → ((i : ℕ) (x : X) → i < n → At xs i x → P x) → All P (take n xs)
  all_before n each k d within =
      let long = length-take n xs in
      let below : k < n = omega (arith, long, within) in
      let inside : k < length xs = omega (arith, long, within) in
      let here = item_at xs k inside in
      let same : get_or (take n xs) k d ≡ here.0 = get_or-take n xs k d below ∙ get_or_from_slice_get xs k here.0 d here.1 in
      subst P (sym same) (each k here.0 below here.1)

  pub before_holds : (n : ℕ) → All P (take n xs) → (i : ℕ) (x : X) → i < n → At xs i x → P x
  before_holds n all i x below here =
      let inside : i < length xs = slice_get_within xs i x here in
      let long = length-take n xs in
      subst P (get_or-take n xs i x below ∙ get_or_from_slice_get xs i x x here) (all i x (omega (arith, long, below, inside)))

-- one item more is taken, with the one that was made of it
pub one_more_beside : {X Y : Type 0} (R : X → Y → Type 0) (xs : List X) (i : ℕ) (x : X) (made after : List Y) (y : Y) → At xs i x → AllZip R (take i xs) made
    → after ≡ made ++ y ∷ [] → R x y → AllZip R (take (i + 1) xs) after
one_more_beside R xs i x made after y here so_far is one =
    subst (AllZip R (take (i + 1) xs)) (sym is) (subst (λ taken. AllZip R taken (made ++ y ∷ [])) (sym (take_item xs i x here)) (zip_push R (take i xs) made x y so_far one))

-- one more item is looked at, and its image comes or doesn't
module _ {X Y : Type 0} (f : X → Y) (p : X → Bool) (xs : List X) (i : ℕ) (x : X) (here : At xs i x) (before so_far after : List Y)
    (is : so_far ≡ before ++ map f (filter p (take i xs))) where
  pub chosen_more : p x ≡ true → after ≡ so_far ++ f x ∷ [] → after ≡ before ++ map f (filter p (take (i + 1) xs))
  chosen_more passes more =
      more ∙ ap (λ list. list ++ f x ∷ []) is ∙ append_assoc before (map f (filter p (take i xs))) (f x ∷ [])
      ∙ ap (λ list. before ++ list) (sym (map-append f (filter p (take i xs)) (x ∷ [])) ∙ ap (map f) (sym (filter_kept p xs i x here passes)))

  pub chosen_none : p x ≡ false → after ≡ so_far → after ≡ before ++ map f (filter p (take (i + 1) xs))
  chosen_none fails same = same ∙ is ∙ ap (λ list. before ++ map f list) (sym (filter_left p xs i x here fails))
