-- Lists that are made of others, item by item.
use Rattle.std.specs.Prelude.{◌≡◌, ℕ, List, length}
use Rattle.emc_base.specs.Lists.{At}

-- what is made of the first so many items, in their order
pub record Made {X Y : Type 0} (IsMade : ℕ → X → Y → Type 0) (items : List X) (n : ℕ) (made : List Y) : Type 0 where
  pub size : length made ≡ n
  pub each : (i : ℕ) (item : X) (one : Y) → At items i item → At made i one → IsMade i item one
