-- The entities of a supported state whose keys are looked for, by what the state is made of.
-- Source: this project's.
use Rattle.std.specs.Prelude.{ℕ, List, map, filter}
use Rattle.round_trip.specs.Words.{SetId, EntitySet, Entity}
use Rattle.population.specs.Plain.{plain}
use Rattle.population.specs.Numbered.{numbered, numbered_key}
use Rattle.population.specs.declared.placed.Placed.{Placed}
use Rattle.population.specs.declared.placed.PlacedKey.{PlacedKey}
use Rattle.population.specs.Supported.{given_in, keys_in}
use Rattle.population.specs.Kept.{key_in}
use Rattle.population.specs.Made.{needed_entities}
use Rattle.supported_states.specs.declared.small_parts.sought.Sought.{Sought}
use Rattle.supported_states.specs.Spots.{passes}

module _ (sought : Sought) (u : SetId) where
  -- those of a set
  abbrev pub sought_in : List Entity
  sought_in = needed_entities sought.model.now sought.row sought.one.now (passes sought.pick) u

  -- of these numbers
  abbrev pub numbers_sought : EntitySet → List ℕ → List Entity
  numbers_sought set numbers = map (numbered sought.model.now sought.row u set)
      (filter (λ n. passes sought.pick (record { set = u; key = numbered_key sought.model.now sought.row u n })) numbers)

  -- of these given ones
  abbrev pub given_sought : List Placed → List Entity
  given_sought given = filter (λ entity. passes sought.pick (key_in sought.model.now u entity)) (given_in given u)

  -- the plain ones of these keys
  abbrev pub keys_sought : EntitySet → List PlacedKey → List Entity
  keys_sought set keys = map (plain sought.model.now sought.row 0 set.element) (filter (λ key. passes sought.pick (record { set = u; key = key })) (keys_in keys u))
