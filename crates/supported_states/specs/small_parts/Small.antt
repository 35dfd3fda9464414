-- What the program is to find for the small part of supported states.
-- Source: this project's.
use Rattle.std.specs.Prelude.{◌≡◌, ◌<◌, ℕ, List, ◌++◌, map, flat_map, Contains}
use Rattle.std.specs.Borrow.{Bor}
use Rattle.emc_base.specs.Lists.{AreApart, At}
use Rattle.round_trip.specs.Words.{EntityModel, State, IsLegal}
use Rattle.population.specs.declared.placed.Supporting.{Supporting}
use Rattle.population.specs.Given.{HasNumbers}
use Rattle.population.specs.declared.placed.PlacedKey.{PlacedKey}
use Rattle.population.specs.Kept.{needed_keys}
use Rattle.population.specs.Made.{AreWhole, needs_of, state_of}
use Rattle.supported_states.specs.declared.small_parts.small.Found.{Found}
use Rattle.supported_states.specs.Spots.{HoldsJust}

-- the state that is made of these is legal, and their keys have a part for each property
pub record IsSupported (model : EntityModel) (outer : ℕ) (one : Supporting) : Type 0 where
  pub numbers : HasNumbers model outer
  pub whole : AreWhole model one.keys
  pub legal : IsLegal model (state_of model outer one)

-- the same of several
pub record AreSupported (model : EntityModel) (outer : ℕ) (ones : List (Bor Supporting)) : Type 0 where
  pub numbers : HasNumbers model outer
  pub each : (one : Bor Supporting) → Contains ones one → IsSupported model outer one.now

-- the states that are made of them
abbrev pub states_of : EntityModel → ℕ → List (Bor Supporting) → List State
states_of model outer ones = map (λ one. state_of model outer one.now) ones

-- what the entity with a key needs in any of them
abbrev pub all_needs : EntityModel → ℕ → List (Bor Supporting) → PlacedKey → List PlacedKey
all_needs model outer ones placed = flat_map (λ one. needs_of model outer one.now placed) ones

-- the keys that were found are known, and each stands there once
pub record IsFound (found : Found) : Type 0 where
  pub known : HoldsJust found.keys.items found.spots
  pub once : AreApart found.keys.items

-- behind those that were found stand others, which are some of these keys, and each of these is found
pub record Finds (keys : List PlacedKey) (before after : Found) : Type 0 where
  pub are_found : IsFound after
  pub more : List PlacedKey
  pub behind : after.keys.items ≡ before.keys.items ++ more
  pub from : (placed : PlacedKey) → Contains more placed → Contains keys placed
  pub all : (placed : PlacedKey) → Contains keys placed → Contains after.keys.items placed

-- the roots are found, and what is needed by each key before a place; all are needed
pub record IsWalked (model : EntityModel) (outer : ℕ) (ones : List (Bor Supporting)) (roots : List PlacedKey) (found : Found) (place : ℕ) : Type 0 where
  pub are_found : IsFound found
  pub holds : (root : PlacedKey) → Contains roots root → Contains found.keys.items root
  pub leads : (i : ℕ) (from to : PlacedKey) → i < place → At found.keys.items i from → Contains (all_needs model outer ones from) to → Contains found.keys.items to
  pub needed : (placed : PlacedKey) → Contains found.keys.items placed → Contains (needed_keys model (states_of model outer ones) roots) placed
