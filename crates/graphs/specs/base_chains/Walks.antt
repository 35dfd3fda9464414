-- What a walk along all bases finds: an order in which each type follows its base, or the first that stands above itself.
-- Source: CSDL version 3, EntityType and its BaseType.
use Rattle.std.specs.Prelude.{◌≡◌, ◌≢◌, ℕ, ◌<◌, ◌≤◌, List, All, AllPairs, Contains, take, min, Option, Some, None}
use Rattle.emc_base.specs.Lists.{At}
use Rattle.graphs.specs.base_chains.Chains.{IsAncestor}
use Rattle.graphs.specs.declared.base_chains.walking.Walk.{Walk}
use Rattle.graphs.specs.declared.base_chains.walking.Walk.TheVariants.{Order, Cycle}

-- P holds of no place, or this is the first of which it holds
abbrev pub IsFirst : (ℕ → Type 0) → Option ℕ → Type 0
IsFirst P None = (i : ℕ) → ¬ P i
IsFirst P (Some first) = P first × ((i : ℕ) → P i → first ≤ i)

-- the lesser of two places, as far as there are any
abbrev pub earlier : Option ℕ → Option ℕ → Option ℕ
earlier None other = other
earlier (Some one) None = Some one
earlier (Some one) (Some other) = Some (min one other)

module _ (base : ℕ → Option ℕ) (count : ℕ) where
  -- the places below a number, each once and after its base
  pub record IsBasesFirst (places : List ℕ) : Type 0 where
    pub each : (i : ℕ) → i < count → Contains places i
    pub within : All (λ i. i < count) places
    pub once : AllPairs (λ i j. i ≢ j) places
    pub before : (k i j : ℕ) → At places k i → base i ≡ Some j → Contains (take k places) j

  -- no place stands above itself, and the order has each after its base; or this is the first that stands above itself
  abbrev pub IsWalk : Walk → Type 0
  IsWalk (Order places) = ((i : ℕ) → ¬ IsAncestor base i i) × IsBasesFirst places.items
  IsWalk (Cycle first) = IsFirst (λ i. IsAncestor base i i) (Some first)
