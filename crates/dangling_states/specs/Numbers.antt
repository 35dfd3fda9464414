-- Partners that are entities of numbers, and the entities that stay where another takes the place of one.
-- Source: this project's choice of the states that it shows.
use Rattle.std.specs.Prelude.{◌==◌, ◌&&◌, ℕ, List, map, Bool, not}
use Rattle.round_trip.specs.Words.{Assoc, EntityModel, SetId, Value, key_of, key_props}
use Rattle.schema_laws.specs.short_values.Fresh.{added_value, fresh_at}
use Rattle.schema_laws.specs.state_demand.Selecting.{same_key}
use Rattle.population.specs.Numbered.{end_number}
use Rattle.population.specs.Supported.{link_of}
use Rattle.population.specs.declared.placed.Placed.{Placed}
use Rattle.population.specs.declared.placed.PlacedKey.{PlacedKey}
use Rattle.population.specs.declared.placed.PlacedLink.{PlacedLink}
use Rattle.regions.specs.Basis.{Basis, Host, partner_end}

module _ (basis : Basis) (outer : ℕ) where
  -- the key of the entity that has the number of the partner's end
  abbrev pub number_root : Host → Assoc → PlacedKey
  number_root host assoc = record {
    set = (partner_end host.first_hosts assoc).set;
    key = map (λ p. fresh_at basis.schema.model outer p (added_value (end_number (not host.first_hosts) host.assoc))) (key_props basis.schema.model (partner_end host.first_hosts assoc).ty);
  }

  -- the link of an entity of this key to it
  abbrev pub number_link : List Value → Host → Assoc → PlacedLink
  number_link key host assoc = record { assoc = host.assoc; link = link_of host.first_hosts key (number_root host assoc).key }

-- whether an entity has another key, or is of another set
abbrev pub stays : EntityModel → SetId → List Value → Placed → Bool
stays model set key placed = not ((placed.set.index == set.index) && same_key (key_of model placed.entity) key)
