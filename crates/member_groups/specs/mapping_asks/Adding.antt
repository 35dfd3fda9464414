-- What comes to what is known, one thing after another.
use Rattle.std.specs.Prelude.{◌⊎◌, ◌↔◌, ℕ, ◌<◌, List, Contains, IsTrue}
use Rattle.std.specs.BTreeSet.{BTreeSet, contains}
use Rattle.std.specs.Ordering.{nat_cmp}

-- there are just the things of this kind
abbrev pub Tells : {Y : Type 0} → (Y → Type 0) → (Y → Type 0) → Type 0
Tells {Y} Has P = (y : Y) → Has y ↔ P y

-- just the things of this kind have come to those that were there before
pub record Adds {Y : Type 0} (P before after : Y → Type 0) : Type 0 where
  pub each : (y : Y) → after y ↔ (before y ⊎ P y)

-- what is so by one of these
abbrev pub Each : {X Y : Type 0} → (X → Y → Type 0) → List X → Y → Type 0
Each {X} P xs y = (x : X) × Contains xs x × P x y

-- what is so by a number below this one
abbrev pub EachBelow : {Y : Type 0} → (ℕ → Y → Type 0) → ℕ → Y → Type 0
EachBelow P n y = (i : ℕ) × (i < n) × P i y

-- the set has the number
abbrev pub HasKey : BTreeSet ℕ → ℕ → Type 0
HasKey numbers k = IsTrue (contains nat_cmp numbers k)
