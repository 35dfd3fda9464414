-- What the items of a list give, one after the other, where what comes from one number goes with all that comes from later numbers.
use Rattle.std.proofs.Common.{◌≡◌, ℕ, suc, ◌+◌, ◌<◌, ◌≤◌, List, [], ◌∷◌, All, AllPairs, Contains, refl, arith}
use Rattle.std.specs.List.{enumerate_from, flat_map}
use Rattle.emc_base.specs.Lists.{At}
use Rattle.emc_base.proofs.Lists.{all_from_members}
use Rattle.emc_base.proofs.Joined.{apart-append, in_enumerated, in_flat_map}

module _ {X Y : Type 0} (R : Y → Y → Type 0) (f : ℕ × X → List Y) (Here : ℕ → X → Type 0) (Comes : ℕ → Y → Type 0)
    (each : (i : ℕ) (x : X) → Here i x → AllPairs R (f (i, x))) (comes : (i : ℕ) (x : X) → Here i x → (y : Y) → Contains (f (i, x)) y → Comes i y)
    (goes : (i k : ℕ) (y z : Y) → i < k → Comes i y → Comes k z → R y z) where
  -- what an item gives comes from its number
  comes_later : (n : ℕ) (xs : List X) → ((k m : ℕ) (x : X) → n + k ≡ m → At xs k x → Here m x) → (y : Y) → Contains (flat_map f (enumerate_from n xs)) y
      → (m : ℕ) × (n ≤ m) × Comes m y
  comes_later n xs here y has =
      let from = in_flat_map f (enumerate_from n xs) y has in
      let entry = in_enumerated n xs from.0 from.1 in
      (from.0.0, (let number : n + entry.0 ≡ from.0.0 = entry.1 in omega arith), comes from.0.0 from.0.1 (here entry.0 from.0.0 from.0.1 entry.1 entry.2) y from.2)

  -- all that the items give goes with what comes later
  pub numbered_pairs : (n : ℕ) (xs : List X) → ((k m : ℕ) (x : X) → n + k ≡ m → At xs k x → Here m x) → AllPairs R (flat_map f (enumerate_from n xs))
  numbered_pairs n [] here = λ i j d below within. absurd (omega arith)
  numbered_pairs n (x ∷ xs) here =
      let first : Here n x = here 0 n x (omega arith) refl in
      let rest : (k m : ℕ) (z : X) → (n + 1) + k ≡ m → At xs k z → Here m z = λ k m z number at. here (suc k) m z (omega arith) at in
      apart-append R (f (n, x)) (flat_map f (enumerate_from (n + 1) xs)) (each n x first) (numbered_pairs (n + 1) xs rest)
      (all_from_members (λ y. All (R y) (flat_map f (enumerate_from (n + 1) xs))) (f (n, x)) (λ y has.
      all_from_members (R y) (flat_map f (enumerate_from (n + 1) xs)) (λ z later.
      let after = comes_later (n + 1) xs rest z later in
      let behind : n + 1 ≤ after.0 = after.1 in
      goes n after.0 y z (omega arith) (comes n x first y has) after.2)))
