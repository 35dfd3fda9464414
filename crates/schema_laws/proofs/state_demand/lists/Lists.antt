-- Members of filtered, mapped and joined lists, and tests of all or some items.
use Rattle.std.proofs.Common.{◌≡◌, ◌≢◌, ◌⊎◌, ⊎_elim, inl, inr, suc, List, [], ◌∷◌, All, Any, AllPairs, Contains, Decides, Bool, refl, sym, ap, subst, ◌∙◌, arith}
use Rattle.std.specs.List.{list_all, list_any}
use Rattle.std.proofs.lemmas.Bool.Decides.{Decides-by_and, Decides-or}
pub use Rattle.emc_base.proofs.Members.{contains_nil as none_in_nil, contains_cons_cases as member_cases, contains_head as head_stands, contains_tail as tail_stands}
pub use Rattle.emc_base.proofs.FoundItems.{some_member as any_of, member_of as of_any, contains_flat_map}
pub use Rattle.emc_base.proofs.Joined.{in_flat_map as member_of_flat_map}

module _ {X : Type 0} where
  module _ (p : X → Bool) (P : X → Type 0) (each : (x : X) → Decides (p x) (P x)) where
    -- a test of all items
    pub Decides-all : (xs : List X) → Decides (list_all p xs) (All P xs)
    Decides-all xs = Decides-by_and p P (list_all p) each refl (λ x rest. refl) xs

    -- a test of some item
    pub Decides-any : (xs : List X) → Decides (list_any p xs) (Any P xs)
    Decides-any [] = (λ told. absurd (let none : ⊥ = cc in none), λ any. absurd (none_in_nil any.1 (any.0, any.2, any.3)))
    Decides-any (x ∷ xs) = let rest = Decides-or (p x) (list_any p xs) (each x) (Decides-any xs) in (
      (λ told. ⊎_elim
          (λ here. any_of P (x ∷ xs) x (head_stands x xs) here)
          (λ (later : Any P xs). let found = of_any P xs later in any_of P (x ∷ xs) found.0 (tail_stands x xs found.0 found.1) found.2)
          (rest.0 told)),
      (λ any. let found = of_any P (x ∷ xs) any in ⊎_elim
          (λ (here : found.0 ≡ x). rest.1 (inl (subst P here found.2)))
          (λ (later : Contains xs found.0). rest.1 (inr (any_of P xs found.0 later found.2)))
          (member_cases x xs found.0 found.1)),
    )

  -- what holds of all or of none
  pub any_or_none : (P : X → Type 0) → ((x : X) → P x ⊎ ¬ P x) → (xs : List X) → ((x : X) × Contains xs x × P x) ⊎ ((x : X) → Contains xs x → ¬ P x)
  any_or_none P each [] = inr (λ x has. absurd (none_in_nil x has))
  any_or_none P each (x ∷ xs) = ⊎_elim
      (λ (here : P x). inl (x, head_stands x xs, here))
      (λ (not_here : ¬ P x). ⊎_elim
      (λ (later : (y : X) × Contains xs y × P y). inl (later.0, tail_stands x xs later.0 later.1, later.2))
      (λ (none : (y : X) → Contains xs y → ¬ P y). inr (λ y has. ⊎_elim
      (λ (same : y ≡ x). λ (holds : P y). not_here (subst P same holds))
      (λ (later : Contains xs y). none y later)
      (member_cases x xs y has)))
      (any_or_none P each xs))
      (each x)

  -- members of a list without repeats of keys that have one key are one
  pub same_by_key : {Y : Type 0} (key : X → Y) (xs : List X) (x y : X) → AllPairs (λ a b. key a ≢ key b) xs → Contains xs x → Contains xs y → key x ≡ key y → x ≡ y
  same_by_key key [] x y apart has_x has_y same = absurd (none_in_nil x has_x)
  same_by_key key (z ∷ zs) x y apart has_x has_y same = ⊎_elim
      (λ (x_here : x ≡ z). ⊎_elim
      (λ (y_here : y ≡ z). x_here ∙ sym y_here)
      (λ (y_later : Contains zs y). absurd (from_head y y_later (sym (ap key x_here) ∙ same)))
      (member_cases z zs y has_y))
      (λ (x_later : Contains zs x). ⊎_elim
      (λ (y_here : y ≡ z). absurd (from_head x x_later (sym (ap key y_here) ∙ sym same)))
      (λ (y_later : Contains zs y). same_by_key key zs x y (λ i j d below within. apart (suc i) (suc j) d (omega arith) (omega arith)) x_later y_later same)
      (member_cases z zs y has_y))
      (member_cases z zs x has_x)
    where
      from_head : (w : X) → Contains zs w → key z ≢ key w
      from_head w has alike = apart 0 (suc has.0) w (omega arith) (omega arith) (alike ∙ ap key (sym has.2))
