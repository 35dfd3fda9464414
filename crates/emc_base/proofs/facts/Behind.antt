-- What stands behind some place, and before another.
use Rattle.std.proofs.Common.{◌≡◌, ◌≢◌, ⊎_elim, ℕ, zero, suc, ◌+◌, ◌<◌, ◌≤◌, List, [], ◌∷◌, length, drop, Some, ap, subst, arith}
use Rattle.std.proofs.lemmas.Bool.{cases_eq}
use Rattle.emc_base.specs.Lists.{At}
use Rattle.emc_base.proofs.Lists.{at_once}

-- the first of what is left stands at the place, and one fewer are left behind it
pub dropped : {X : Type 0} (xs : List X) (n : ℕ) (x : X) (rest : List X) → drop n xs ≡ x ∷ rest → At xs n x × (drop (suc n) xs ≡ rest)
dropped [] zero x rest is = absurd cc
dropped [] (suc n) x rest is = absurd cc
dropped (y ∷ ys) zero x rest is = let head : y ≡ x = cc in let tail : ys ≡ rest = cc in (ap Some head, tail)
dropped (y ∷ ys) (suc n) x rest is = dropped ys n x rest is

-- nothing is left behind the last place
pub all_dropped : {X : Type 0} (xs : List X) (n : ℕ) → drop n xs ≡ [] → length xs ≤ n
all_dropped [] n is = omega arith
all_dropped (y ∷ ys) zero is = absurd cc
all_dropped (y ∷ ys) (suc n) is = let less : length ys ≤ n = all_dropped ys n is in omega arith

-- another item than that at a place, up to it, stands before it
pub at_earlier : {X : Type 0} (xs : List X) (n : ℕ) (x : X) → At xs n x → (m : ℕ) (y : X) → m < n + 1 → At xs m y → y ≢ x → m < n
at_earlier {X} xs n x here m y below at other = ⊎_elim
    (λ (last : m ≡ n). let P : ℕ → Type 0 = λ k. At xs k y in absurd (other (at_once xs n y x (subst P last at) here)))
    (λ (earlier : m ≢ n). omega arith)
    (cases_eq m n)
