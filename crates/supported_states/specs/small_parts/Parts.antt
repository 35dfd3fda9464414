-- The entities and links of a supported state between keys that are looked for.
-- Source: this project's.
use Rattle.std.specs.Prelude.{◌&&◌, ℕ, List, [], ◌++◌, map, filter, length, slice_get, Bool, true, false, not, if◌then◌else◌}
use Rattle.std.specs.Option.{option_map_or}
use Rattle.round_trip.specs.Words.{AssocId, Assoc, Entity, Link}
use Rattle.schema_laws.specs.short_values.Numbers.{numbers_from}
use Rattle.population.specs.declared.placed.PlacedLink.{PlacedLink}
use Rattle.population.specs.Numbered.{end_of}
use Rattle.population.specs.Supported.{added_link, is_one, lacks_link, links_of}
use Rattle.population.specs.Kept.{key_at_end}
use Rattle.population.specs.Made.{needed_links}
use Rattle.supported_states.specs.declared.small_parts.sought.Sought.{Sought}
use Rattle.supported_states.specs.small_parts.Sides.{far_key}
use Rattle.supported_states.specs.small_parts.Sought.{sought_in}
use Rattle.supported_states.specs.Spots.{passes}

module _ (sought : Sought) where
  -- the entities of each set
  abbrev pub are_sought : List (List Entity)
  are_sought = map (λ n. sought_in sought (record { index = n })) (numbers_from 0 (length sought.model.now.sets))

  -- the links of an association
  abbrev pub links_at : ℕ → List Link
  links_at n = option_map_or (needed_links sought.model.now sought.row sought.one.now (passes sought.pick) (record { index = n })) (slice_get sought.model.now.assocs n) []

  -- the given links of an association
  abbrev pub given_links : AssocId → Assoc → List PlacedLink → List Link
  given_links a assoc links = filter (λ link. passes sought.pick (key_at_end true assoc link) && passes sought.pick (key_at_end false assoc link)) (links_of links a)

  module _ (first : Bool) (a : AssocId) (assoc : Assoc) where
    -- the links of entities that lack one at an end
    abbrev pub links_lacking : List Entity → List Link
    links_lacking entities = map (added_link sought.model.now sought.row first a assoc) (filter (lacks_link sought.model.now first assoc (links_of sought.one.now.links a)) entities)

    -- where the other end asks for exactly one partner and that is looked for
    abbrev pub links_added : List Entity → List Link
    links_added entities =
        if is_one (end_of (not first) assoc).mult && passes sought.pick (record { set = (end_of (not first) assoc).set; key = far_key first a assoc sought.model.now sought.row })
        then links_lacking entities else []

  -- the links of an independent association
  abbrev pub links_sought : AssocId → Assoc → List Link
  links_sought a assoc = given_links a assoc sought.one.now.links
      ++ (links_added true a assoc (sought_in sought assoc.first.set) ++ links_added false a assoc (sought_in sought assoc.second.set))
