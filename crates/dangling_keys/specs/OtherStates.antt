-- The states in which another entity has the key that is shown: one of a region, in place of the plain one.
-- Source: this project's choice of the states that it shows.
use Rattle.std.specs.Prelude.{◌==◌, ◌&&◌, ℕ, List, ◌∷◌, ◌++◌, filter, Bool, not, if◌then◌else◌}
use Rattle.round_trip.specs.Words.{PropId, State, Value, key_of, key_props}
use Rattle.schema_laws.specs.short_values.Fresh.{added_value, fresh_at}
use Rattle.schema_laws.specs.short_values.Places.{is_among}
use Rattle.schema_laws.specs.state_demand.Selecting.{same_key}
use Rattle.population.specs.Numbered.{end_number}
use Rattle.population.specs.Support.{support}
use Rattle.population.specs.Supported.{supported}
use Rattle.population.specs.declared.placed.Placed.{Placed}
use Rattle.population.specs.declared.placed.PlacedKey.{PlacedKey}
use Rattle.population.specs.declared.placed.PlacedLink.{PlacedLink}
use Rattle.regions.specs.Basis.{Basis}
use Rattle.regions.specs.Patterns.{Valuation}
use Rattle.regions.specs.declared.region.Region.{Region}
use Rattle.region_states.specs.Entities.{focus_entity}
use Rattle.region_states.specs.defaults.Defaults.{default_valuation}
use Rattle.host_states.specs.FocusStates.{focus, linked_hosts, links_by, wanted_by}

module _ (basis : Basis) (outer : ℕ) where
  -- a property of the key has a given value, another one the usual value; a part of a partner's key is that of the number of its end
  abbrev pub other_values : Region → (PropId → Value) → Valuation
  other_values region given = record {
    prop = λ p. if is_among p (key_props basis.schema.model region.ty) then given p else (default_valuation basis outer region).prop p;
    part = λ a first p. fresh_at basis.schema.model outer p (added_value (end_number first a));
  }

  module _ (region : Region) (values : Valuation) where
    abbrev pub other_key : List Value
    other_key = key_of basis.schema.model (focus_entity basis region values)

    -- whether a given entity has another key, or is of another set
    abbrev pub keeps : Placed → Bool
    keeps placed = not ((placed.set.index == region.set.index) && same_key (key_of basis.schema.model placed.entity) other_key)

    -- the entity of the region in place of one with its key, with its links to entities of numbers, and what supports it
    abbrev pub other_given : List Placed → List Placed
    other_given given = focus basis region values ∷ filter keeps given

    abbrev pub own_links : List PlacedLink
    own_links = links_by basis region values (linked_hosts basis region)

    abbrev pub other_links : List PlacedLink → List PlacedLink
    other_links links = links ++ own_links

    abbrev pub other_wanted : List Placed → List PlacedKey
    other_wanted given = wanted_by basis outer (other_given given)

    abbrev pub other_state : List Placed → List PlacedLink → State
    other_state given links = supported basis.schema.model outer (other_given given) (support basis.schema.model outer (other_given given) (other_wanted given)) (other_links links)
