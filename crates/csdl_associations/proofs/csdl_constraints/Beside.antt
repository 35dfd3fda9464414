-- Lists of which one tells something of each item of the other, and lists of what two functions give.
use Rattle.std.proofs.Common.{◌≡◌, ◌≢◌, ◌⊎◌, ⊎_elim, inl, inr, ℕ, zero, suc, ◌+◌, ◌<◌, ◌≤◌, List, [], ◌∷◌, ◌++◌, length, map, take, slice_get, refl, sym, ap, subst, ◌∙◌, arith}
use Rattle.std.specs.Option.{option_map}
use Rattle.std.proofs.lemmas.Bool.{cases_eq}
use Rattle.std.proofs.lemmas.List.{length-append}
use Rattle.std.proofs.lemmas.Option.{none-some, same_Some, slice_get-map, slice_get_within}
use Rattle.emc_base.specs.Lists.{At}
use Rattle.emc_base.proofs.Lists.{at_once}
use Rattle.emc_base.proofs.Loops.{take_item}
use Rattle.csdl_associations.specs.csdl_constraints.Told.{Beside}

-- at a place of a list with one item more
pub at_push : {X : Type 0} (xs : List X) (x : X) (i : ℕ) (y : X) → At (xs ++ x ∷ []) i y → At xs i y ⊎ ((i ≡ length xs) × (x ≡ y))
at_push [] x zero y is = inr (refl, same_Some x y is)
at_push [] x (suc i) y is = absurd (none-some y is)
at_push (z ∷ zs) x zero y is = inl is
at_push (z ∷ zs) x (suc i) y is = ⊎_elim
    (λ (here : At zs i y). inl here)
    (λ (last : (i ≡ length zs) × (x ≡ y)). inr (ap suc last.0, last.1))
    (at_push zs x i y is)

module _ {X Y : Type 0} (R : X → Y → Type 0) where
  -- none yet
  pub beside_start : Beside R [] []
  beside_start = record { alike = refl; each = λ i x y here there. absurd (let within : i < 0 = slice_get_within [] i x here in omega arith) }

  -- one more
  pub beside_push : (xs : List X) (ys : List Y) (x : X) (y : Y) → Beside R xs ys → R x y → Beside R (xs ++ x ∷ []) (ys ++ y ∷ [])
  beside_push xs ys x y are last = record {
    alike = length-append ys (y ∷ []) ∙ ap (λ n. n + 1) are.alike ∙ sym (length-append xs (x ∷ []));
    each = λ i one other at_one at_other. ⊎_elim
        (λ (here : At xs i one). ⊎_elim
        (λ (there : At ys i other). are.each i one other here there)
        (λ (end : (i ≡ length ys) × (y ≡ other)). absurd (past xs i one here (end.0 ∙ are.alike)))
        (at_push ys y i other at_other))
        (λ (end : (i ≡ length xs) × (x ≡ one)). ⊎_elim
        (λ (there : At ys i other). absurd (past ys i other there (end.0 ∙ sym are.alike)))
        (λ (both : (i ≡ length ys) × (y ≡ other)). subst (λ (z : Y). R one z) both.1 (subst (λ (z : X). R z y) end.1 last))
        (at_push ys y i other at_other))
        (at_push xs x i one at_one);
  }
    where
      past : {Z : Type 0} (zs : List Z) (i : ℕ) (z : Z) → At zs i z → i ≢ length zs
      past [] i z here end = absurd (none-some z here)
      past (w ∷ zs) zero z here end = absurd (omega arith)
      past (w ∷ zs) (suc i) z here end = past zs i z here (let same : suc i ≡ suc (length zs) = end in omega arith)

  -- one more is taken
  pub beside_more : (xs : List X) (n : ℕ) (ys : List Y) (x : X) (y : Y) → At xs n x → Beside R (take n xs) ys → R x y → Beside R (take (n + 1) xs) (ys ++ y ∷ [])
  beside_more xs n ys x y here are last = subst (λ (zs : List X). Beside R zs (ys ++ y ∷ [])) (sym (take_item xs n x here)) (beside_push (take n xs) ys x y are last)

module _ {X Y Z : Type 0} (f : X → Z) (g : Y → Z) where
  -- lists of one length whose items give the same give the same lists
  pub same_maps : (xs : List X) (ys : List Y) → length xs ≡ length ys → ((i : ℕ) (x : X) (y : Y) → At xs i x → At ys i y → f x ≡ g y) → map f xs ≡ map g ys
  same_maps [] [] alike each = refl
  same_maps [] (y ∷ ys) alike each = absurd (omega arith)
  same_maps (x ∷ xs) [] alike each = absurd (omega arith)
  same_maps (x ∷ xs) (y ∷ ys) alike each = λ k.
      each 0 x y refl refl k ∷ same_maps xs ys (let same : suc (length xs) ≡ suc (length ys) = alike in omega arith) (λ i one other at_one at_other. each (suc i) one other at_one at_other) k

  pub maps_same : (xs : List X) (ys : List Y) (i : ℕ) (x : X) (y : Y) → At xs i x → At ys i y → map f xs ≡ map g ys → f x ≡ g y
  maps_same xs ys i x y at_x at_y same = same_Some (f x) (g y)
      (sym (slice_get-map f xs i ∙ ap (option_map f) at_x) ∙ ap (λ zs. slice_get zs i) same ∙ slice_get-map g ys i ∙ ap (option_map g) at_y)

  -- the items before a place give the same
  module _ (xs : List X) (ys : List Y) where
    abbrev pub SameBefore : ℕ → Type 0
    SameBefore n = (j : ℕ) (x : X) (y : Y) → At xs j x → At ys j y → j < n → f x ≡ g y

    -- one more
    pub same_more : (n : ℕ) (x : X) (y : Y) → At xs n x → At ys n y → f x ≡ g y → SameBefore n → SameBefore (n + 1)
    same_more n x y at_x at_y is before j one other at_one at_other less = ⊎_elim
        (λ (same : j ≡ n).
        let one_n : At xs n one = subst (λ (k : ℕ). At xs k one) same at_one in
        let other_n : At ys n other = subst (λ (k : ℕ). At ys k other) same at_other in
        ap f (at_once xs n one x one_n at_x) ∙ is ∙ ap g (at_once ys n y other at_y other_n))
        (λ (apart : j ≢ n). before j one other at_one at_other (let b : j < n + 1 = less in omega arith))
        (cases_eq j n)

    -- all
    pub same_all : (n : ℕ) → length xs ≡ length ys → length xs ≤ n → SameBefore n → map f xs ≡ map g ys
    same_all n alike end before = same_maps xs ys alike (λ i x y at_x at_y.
        before i x y at_x at_y (let within : i < length xs = slice_get_within xs i x at_x in omega arith))
