-- The keys that support given entities: those of the principals that are wanted, of the principals of plain entities there, and so on, as far as
-- no other entity stands there.
-- Source: this project's choice of the states that it shows; CSDL version 3, ReferentialConstraint.
use Rattle.std.specs.Prelude.{◌≡◌, ◌⊎◌, ◌<◌, ◌==◌, ◌&&◌, ℕ, zero, suc, List, [], ◌++◌, Bool, map, filter, flat_map, slice_get, length, Contains, not}
use Rattle.std.specs.List.{list_any}
use Rattle.std.specs.Option.{option_map_or}
use Rattle.emc_base.specs.Lists.{AreApart}
use Rattle.round_trip.specs.Words.{EntityModel, Entity, key_of}
use Rattle.schema_laws.specs.short_values.Numbers.{numbers_from}
use Rattle.schema_laws.specs.state_demand.MadeTables.{distinct}
use Rattle.schema_laws.specs.state_demand.Selecting.{same_key}
use Rattle.population.specs.Plain.{plain}
use Rattle.population.specs.Numbered.{number_count, numbered_key}
use Rattle.population.specs.Principals.{PlacedKey, principals}
use Rattle.population.specs.Supported.{Placed, given_in}

-- whether two keys in sets are one
abbrev pub same_placed : PlacedKey → PlacedKey → Bool
same_placed one other = (one.set.index == other.set.index) && same_key one.key other.key

module _ (model : EntityModel) (outer : ℕ) where
  -- the principals of the plain entity with this key
  abbrev pub steps : PlacedKey → List PlacedKey
  steps from = option_map_or (λ set. principals model from.set (plain model outer 0 set.element from.key)) (slice_get model.sets from.set.index) []

  -- so many steps find all: no more are needed than there are sets
  abbrev pub step_count : ℕ
  step_count = length model.sets

  module _ (given : List Placed) where
    -- whether the set's entity of a number, or a given one, has the key
    abbrev pub is_taken : PlacedKey → Bool
    is_taken placed = list_any (same_key placed.key) (map (numbered_key model outer placed.set) (numbers_from 0 (number_count model)) ++ map (key_of model) (given_in given placed.set))

    -- those at which no such entity stands
    abbrev pub free_keys : List PlacedKey → List PlacedKey
    free_keys keys = filter (λ placed. not (is_taken placed)) keys

    -- these keys, and those to which so many steps lead from them
    abbrev pub levels : ℕ → List PlacedKey → List PlacedKey
    levels zero keys = keys
    levels (suc more) keys = keys ++ levels more (free_keys (flat_map steps keys))

    -- the support of the wanted keys, each once
    abbrev pub support : List PlacedKey → List PlacedKey
    support wanted = distinct same_placed (levels step_count (free_keys wanted))

    -- an entity of a number, or a given one, has the key
    abbrev pub IsTaken : PlacedKey → Type 0
    IsTaken placed = ((number : ℕ) × (number < number_count model) × (placed.key ≡ numbered_key model outer placed.set number))
        ⊎ ((entity : Entity) × Contains (given_in given placed.set) entity × (key_of model entity ≡ placed.key))

    -- the list holds the wanted keys at which no such entity stands, and with each key those of its steps
    pub record IsClosedFor (wanted list : List PlacedKey) : Type 0 where
      pub wanted_in : (placed : PlacedKey) → Contains wanted placed → ¬ IsTaken placed → Contains list placed
      pub steps_in : (from to : PlacedKey) → Contains list from → Contains (steps from) to → ¬ IsTaken to → Contains list to

    -- it is the least such list, and holds each once
    pub record IsLeastFor (wanted list : List PlacedKey) : Type 0 where
      pub closed : IsClosedFor wanted list
      pub least : (other : List PlacedKey) → IsClosedFor wanted other → (placed : PlacedKey) → Contains list placed → Contains other placed
      pub once : AreApart list
