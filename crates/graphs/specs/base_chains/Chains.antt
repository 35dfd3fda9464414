-- Types in a list, each with a base at most: what stands above a type, and a type after all that stand above it.
-- Source: CSDL version 3, EntityType and its BaseType.
use Rattle.std.specs.Prelude.{◌≡◌, ◌≢◌, ◌⊎◌, ◌↔◌, ℕ, zero, suc, ◌<◌, List, [], ◌∷◌, ◌++◌, length, get_or, slice_get, slice_index, sum_by, AllPairs, Contains, Option, Some}
use Rattle.std.specs.Option.{option_and_then, option_map_or}

-- what a list of bases says of a place; nothing outside of the list
abbrev pub base_at : List (Option ℕ) → ℕ → Option ℕ
base_at bases i = option_and_then (λ (base : Option ℕ). base) (slice_get bases i)

-- each base is one of so many places
abbrev pub StaysWithin : (ℕ → Option ℕ) → ℕ → Type 0
StaysWithin base count = (i j : ℕ) → base i ≡ Some j → j < count

-- none, or one of the places of a list
abbrev pub IsPlace : {X : Type 0} → List X → Option ℕ → Type 0
IsPlace items place = (i : ℕ) → place ≡ Some i → i < length items

-- the second place stands above the first: it is its base, or stands above its base
pub data IsAncestor (base : ℕ → Option ℕ) : ℕ → ℕ → Type 0 where
  direct : (i j : ℕ) → base i ≡ Some j → IsAncestor base i j
  further : (i j k : ℕ) → base i ≡ Some j → IsAncestor base j k → IsAncestor base i k

module _ (base : ℕ → Option ℕ) where
  -- the second place is the first, or stands above it
  abbrev pub IsUpFrom : ℕ → ℕ → Type 0
  IsUpFrom i j = (i ≡ j) ⊎ IsAncestor base i j

  -- these places stand above one, and no others, each once
  pub record StandAbove (place : ℕ) (above : List ℕ) : Type 0 where
    pub each : (i : ℕ) → (Contains above i ↔ IsAncestor base place i)
    pub once : AllPairs (λ i j. i ≢ j) above

  -- a place after all that stand above it, the root first: so many of them at most
  abbrev pub chain_upto : ℕ → ℕ → List ℕ
  chain_upto zero i = []
  chain_upto (suc n) i = option_map_or (λ j. chain_upto n j) (base i) [] ++ i ∷ []

  -- a place after all that stand above it, where there are so many places
  abbrev pub chain : ℕ → ℕ → List ℕ
  chain count i = chain_upto count i

  -- what the places of a chain have of their own, together
  abbrev pub chain_size : ℕ → List ℕ → ℕ → ℕ
  chain_size count own i = sum_by (λ j. slice_index own j) (chain count i)

  -- the place at the top of a chain; the place itself where the chain is empty
  abbrev pub root : ℕ → ℕ → ℕ
  root count i = get_or (chain count i) 0 i
