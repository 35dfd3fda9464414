-- What entities need, side by side of each association.
-- Source: this project's.
use Rattle.std.specs.Prelude.{◌==◌, ◌&&◌, ℕ, List, [], ◌++◌, map, filter, flat_map, Bool, true, false, not, if◌then◌else◌}
use Rattle.std.specs.List.{enumerate_from}
use Rattle.round_trip.specs.Words.{SetId, AssocId, Value, EntityModel, Assoc, Entity, key_of}
use Rattle.schema_laws.specs.state_demand.Selecting.{same_key}
use Rattle.population.specs.declared.placed.PlacedKey.{PlacedKey}
use Rattle.population.specs.declared.placed.PlacedLink.{PlacedLink}
use Rattle.population.specs.Numbered.{end_number, end_of, numbered_key}
use Rattle.population.specs.Principals.{principals}
use Rattle.population.specs.Supported.{added_link, end_key, is_none, is_one, lacks_link, links_of}
use Rattle.population.specs.Kept.{key_at_end}
use Rattle.supported_states.specs.declared.small_parts.needs.Seat.{Seat}

module _ (first : Bool) (a : AssocId) (assoc : Assoc) where
  -- whether the other side asks for exactly one partner of the entities of a set
  abbrev pub is_asking : SetId → Bool
  is_asking u = is_none assoc.constraint && (is_one (end_of (not first) assoc).mult && ((end_of first assoc).set.index == u.index))

  -- the partners to which given links lead from a key
  abbrev pub given_partners : List Value → List PlacedLink → List PlacedKey
  given_partners key links = map (key_at_end (not first) assoc) (filter (λ link. same_key (end_key first link) key) (links_of links a))

  -- the key at the other side of a link that is added
  abbrev pub far_key : EntityModel → ℕ → List Value
  far_key model outer = numbered_key model outer (end_of (not first) assoc).set (end_number (not first) a)

  -- whether a link is one of the association, and an entity's own
  abbrev pub is_own_link : EntityModel → Entity → PlacedLink → Bool
  is_own_link model entity placed = (placed.assoc.index == a.index) && same_key (end_key first placed.link) (key_of model entity)

module _ (seat : Seat) where
  module _ (first : Bool) (a : AssocId) (assoc : Assoc) where
    -- the partners to which links lead that are added for entities
    abbrev pub added_partners : List Entity → List PlacedKey
    added_partners entities = map (key_at_end (not first) assoc)
        (map (added_link seat.model.now seat.row first a assoc) (filter (lacks_link seat.model.now first assoc (links_of seat.one.now.links a)) entities))

    -- the partners that the other side asks of them
    abbrev pub partners_at_side : List PlacedKey
    partners_at_side = if is_asking first a assoc seat.placed.now.set
        then given_partners first a assoc seat.placed.now.key seat.one.now.links ++ added_partners seat.entities.now else []

  -- the partners that an association asks of them, at either end
  abbrev pub partners_of_assoc : ℕ × Assoc → List PlacedKey
  partners_of_assoc entry = partners_at_side true (record { index = entry.0 }) entry.1 ++ partners_at_side false (record { index = entry.0 }) entry.1

  -- the partners that are asked of them
  abbrev pub partners_beside : List PlacedKey
  partners_beside = flat_map partners_of_assoc (enumerate_from 0 seat.model.now.assocs)

  -- what they need
  abbrev pub needs_beside : List PlacedKey
  needs_beside = flat_map (principals seat.model.now seat.placed.now.set) seat.entities.now ++ partners_beside
