-- Marked types, and the types above them.
-- Source: CSDL version 3, EntityType and its BaseType.
use Rattle.std.specs.Prelude.{◌≡◌, ◌⊎◌, ◌↔◌, ℕ, ◌<◌, Bool, true, List, length, Option, Some}
use Rattle.emc_base.specs.Lists.{At}
use Rattle.graphs.specs.base_chains.Chains.{IsUpFrom}

-- a place is marked, or one below it
abbrev pub HasMarkBelow : (ℕ → Option ℕ) → List Bool → ℕ → Type 0
HasMarkBelow base marks i = (j : ℕ) × At marks j true × IsUpFrom base j i

-- of each of so many places is told whether it is marked or one below it
pub record TellsMarksBelow (base : ℕ → Option ℕ) (count : ℕ) (marks told : List Bool) : Type 0 where
  pub size : length told ≡ count
  pub each : (i : ℕ) → i < count → (At told i true ↔ HasMarkBelow base marks i)

-- the mark of a place was carried to its base, if it has one
pub record IsCarried (place : ℕ) (base : Option ℕ) (before after : List Bool) : Type 0 where
  pub size : length after ≡ length before
  pub kept : (i : ℕ) → At before i true → At after i true
  pub carried : (i : ℕ) → base ≡ Some i → At before place true → At after i true
  pub only : (i : ℕ) → At after i true → At before i true ⊎ ((base ≡ Some i) × At before place true)
