-- What a loop has seen of the items that it passed.
use Rattle.std.proofs.Common.{◌≡◌, ◌≢◌, ⊎_elim, ℕ, ◌+◌, ◌<◌, ◌≤◌, List, length, get_or, All, sym, subst, arith}
use Rattle.std.proofs.lemmas.Bool.{cases_eq}
use Rattle.std.proofs.lemmas.Option.{get_or_from_slice_get, slice_get-get_or, slice_get_within}
use Rattle.emc_base.specs.Lists.{At}
use Rattle.emc_base.proofs.Lists.{at_once}

module _ {X : Type 0} (P : ℕ → X → Type 0) (items : List X) where
  -- each item before the place is so
  abbrev pub EachTo : ℕ → Type 0
  EachTo n = (j : ℕ) (x : X) → At items j x → j < n → P j x

  pub each_none : EachTo 0
  each_none j x here before = absurd (omega arith)

  pub each_more : (n : ℕ) (x : X) → At items n x → P n x → EachTo n → EachTo (n + 1)
  each_more n x here holds passed j y at before = ⊎_elim
      (λ (same : j ≡ n).
      let at_n : At items n y = subst (λ (k : ℕ). At items k y) same at in
      let R : X → Type 0 = λ z. P n z in
      subst (λ (k : ℕ). P k y) (sym same) (subst R (at_once items n x y here at_n) holds))
      (λ (other : j ≢ n). passed j y at (omega arith))
      (cases_eq j n)

  pub each_all : (n : ℕ) → length items ≤ n → EachTo n → (j : ℕ) (x : X) → At items j x → P j x
  each_all n end passed j x here = passed j x here (let within : j < length items = slice_get_within items j x here in omega arith)

-- what was seen of each item holds of all
pub all_seen : {X : Type 0} (P : X → Type 0) (items : List X) (n : ℕ) → length items ≤ n → EachTo (λ _ x. P x) items n → All P items
all_seen P items n end passed i d within = passed i (get_or items i d) (slice_get-get_or items i d within) (omega arith)

-- and what holds of all holds of what stands at a place
pub all_here : {X : Type 0} (P : X → Type 0) (items : List X) (i : ℕ) (x : X) → All P items → At items i x → P x
all_here P items i x all here = subst P (get_or_from_slice_get items i x x here) (all i x (slice_get_within items i x here))

-- from what holds at each place
pub all_at : {X : Type 0} (P : X → Type 0) (items : List X) → ((i : ℕ) (x : X) → At items i x → P x) → All P items
all_at P items each i d within = each i (get_or items i d) (slice_get-get_or items i d within)

-- what holds of each item may be said in other words
pub all_as : {X : Type 0} (P Q : X → Type 0) → ((x : X) → P x → Q x) → (items : List X) → All P items → All Q items
all_as P Q to items all = λ i d within. to (get_or items i d) (all i d within)
