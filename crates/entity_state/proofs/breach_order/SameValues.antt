-- Values and lists of cells that are the same.
use Rattle.std.proofs.Common.{◌≡◌, ◌≢◌, ◌↔◌, ◌⊎◌, ⊎_elim, inl, inr, ℕ, suc, ◌+◌, ◌<◌, List, [], ◌∷◌, length, map, slice_get, refl, sym, ap, subst, ◌∙◌, arith, IsTrue}
use Rattle.std.specs.Cmp.{Equal-is, tied_itself}
use Rattle.std.specs.Ordering.{eq_by_cmp, is_eq}
use Rattle.std.specs.Option.{option_map}
use Rattle.std.proofs.lemmas.Option.{same_Some, slice_get-map}
use Rattle.std.proofs.lemmas.Bool.{cases_eq}
use Rattle.emc_base.specs.Lists.{At}
use Rattle.emc_base.proofs.Lists.{at_once}
use Rattle.emc_base.specs.Order.{value_cmp}
use Rattle.emc_base.specs.OrderLaws.{value_cmp_apart, value_cmp_total}
use Rattle.round_trip.specs.Types.{Value, Null, Whole, Flag, Text, Bytes}

-- the order of values ties just equal ones
pub tied_values : (one other : Value) → IsTrue (eq_by_cmp value_cmp one other) ↔ (one ≡ other)
tied_values one other = (
  λ tied. value_cmp_apart one other ((Equal-is (value_cmp one other)).0 tied),
  λ same. ap is_eq (ap (value_cmp one) (sym same) ∙ tied_itself value_cmp_total one),
)

-- a value is null or it isn't
pub null_or : (value : Value) → (value ≡ Null) ⊎ (value ≢ Null)
null_or Null = inl refl
null_or (Whole number) = inr (λ is. absurd cc)
null_or (Flag flag) = inr (λ is. absurd cc)
null_or (Text text) = inr (λ is. absurd cc)
null_or (Bytes bytes) = inr (λ is. absurd cc)

module _ {X Y Z : Type 0} (f : X → Z) (g : Y → Z) where
  -- what two functions make of two lists is the same at each place
  pub same_at : (xs : List X) (ys : List Y) → map f xs ≡ map g ys → (k : ℕ) (x : X) (y : Y) → At xs k x → At ys k y → f x ≡ g y
  same_at xs ys same k x y here there = same_Some (f x) (g y)
      (sym (slice_get-map f xs k ∙ ap (option_map f) here) ∙ ap (λ zs. slice_get zs k) same ∙ slice_get-map g ys k ∙ ap (option_map g) there)

  -- and where it is the same at each place, it is the same
  pub same_maps : (xs : List X) (ys : List Y) → length xs ≡ length ys → ((k : ℕ) (x : X) (y : Y) → At xs k x → At ys k y → k < length xs → f x ≡ g y) → map f xs ≡ map g ys
  same_maps [] [] long each = refl
  same_maps [] (y ∷ ys) long each = absurd (omega arith)
  same_maps (x ∷ xs) [] long each = absurd (omega arith)
  same_maps (x ∷ xs) (y ∷ ys) long each =
      let first : f x ≡ g y = each 0 x y refl refl (omega arith) in
      let rest : map f xs ≡ map g ys = same_maps xs ys (omega arith) (λ k a b here there within. each (suc k) a b here there (omega arith)) in
      λ i. first i ∷ rest i

  -- one place more
  pub same_more : (xs : List X) (ys : List Y) (n : ℕ) (x : X) (y : Y) → At xs n x → At ys n y → f x ≡ g y
      → ((k : ℕ) (a : X) (b : Y) → At xs k a → At ys k b → k < n → f a ≡ g b) → (k : ℕ) (a : X) (b : Y) → At xs k a → At ys k b → k < n + 1 → f a ≡ g b
  same_more xs ys n x y at_x at_y same passed k a b here there before = ⊎_elim
      (λ (is : k ≡ n).
      let is_a : x ≡ a = at_once xs n x a at_x (subst (λ (m : ℕ). At xs m a) is here) in
      let is_b : y ≡ b = at_once ys n y b at_y (subst (λ (m : ℕ). At ys m b) is there) in
      sym (ap f is_a) ∙ same ∙ ap g is_b)
      (λ (other : k ≢ n). passed k a b here there (omega arith))
      (cases_eq k n)
