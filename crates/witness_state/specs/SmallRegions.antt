-- What the small states of entities of regions are made of, told by the entities.
-- Source: this project's choice of the states that it shows.
use Rattle.std.specs.Prelude.{ℕ, List, ◌∷◌, filter, flat_map}
use Rattle.round_trip.specs.Words.{Value, Null, EntityModel, Assoc, Entity, key_of}
use Rattle.table_owners.specs.declared.places.LinkPlace.{LinkPlace}
use Rattle.regions.specs.declared.region.Region.{Region}
use Rattle.regions.specs.Basis.{Basis, Host}
use Rattle.regions.specs.Patterns.{Valuation}
use Rattle.regions.specs.Symbols.{is_linked}
use Rattle.region_states.specs.defaults.Defaults.{default_part}
use Rattle.region_states.specs.region_basis.BasisOf.{host_at}
use Rattle.population.specs.declared.placed.Placed.{Placed}
use Rattle.population.specs.declared.placed.PlacedKey.{PlacedKey}
use Rattle.population.specs.declared.placed.PlacedLink.{PlacedLink}
use Rattle.population.specs.declared.placed.Supporting.{Supporting}
use Rattle.population.specs.Support.{support}
use Rattle.population.specs.Supported.{link_of}
use Rattle.host_states.specs.FocusStates.{by_assoc, linked_hosts, partner_of, told_key}
use Rattle.witness_state.specs.declared.small_regions.hosts.Hosting.{Hosting}

-- a hosted association as it stands in the definitions
abbrev pub host_of : Hosting → Host
host_of hosting = record { assoc = hosting.assoc; first_hosts = hosting.first_hosts }

-- what is made of given entities and links, with the support of wanted keys by numbers of a row
abbrev pub supporting : EntityModel → ℕ → List Placed → List PlacedKey → List PlacedLink → Supporting
supporting model outer given wanted links = record { given = given; keys = support model outer given wanted; links = links }

module _ (basis : Basis) where
  -- a numbered association as one that is hosted at the region's set, if the region has a link of it
  abbrev pub linked_at : List LinkPlace → Region → ℕ × Assoc → List Host
  linked_at places region entry = filter (λ host. is_linked basis region.linked host.assoc) (host_at places region.set entry)

  module _ (outer : ℕ) where
    -- values by which partners have the usual keys
    abbrev pub usual : Valuation
    usual = record { prop = λ p. Null; part = default_part basis outer }

    -- the link of an entity of this key to its partner
    abbrev pub link_with : List Value → Host → Assoc → PlacedLink
    link_with key host assoc = record { assoc = host.assoc; link = link_of host.first_hosts key (told_key basis usual host assoc) }

    -- the entity of a region with its partners
    abbrev pub given_with : Region → Entity → List Placed
    given_with region entity = record { set = region.set; entity = entity } ∷ flat_map (by_assoc basis (partner_of basis outer usual)) (linked_hosts basis region)

    -- its links to them
    abbrev pub links_with : Region → Entity → List PlacedLink
    links_with region entity = flat_map (by_assoc basis (link_with (key_of basis.schema.model entity))) (linked_hosts basis region)
