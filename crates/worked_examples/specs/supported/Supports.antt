-- What given entities ask for, and the state that stands with them.
use Rattle.std.specs.Prelude.{ℕ, List, flat_map}
use Rattle.round_trip.specs.Words.{Value, EntityModel, Entity, Link, State}
use Rattle.population.specs.Principals.{principals}
use Rattle.population.specs.declared.placed.PlacedKey.{PlacedKey}
use Rattle.population.specs.Support.{support}
use Rattle.population.specs.Supported.{supported}
use Rattle.population.specs.declared.placed.Placed.{Placed}
use Rattle.population.specs.declared.placed.PlacedLink.{PlacedLink}
use Rattle.worked_examples.specs.Ids.{set_id, assoc_id}

-- an entity in the set of a number, a key in it, and a link of the association of a number
abbrev pub placed_in : ℕ → Entity → Placed
placed_in n entity = record { set = set_id n; entity = entity }

abbrev pub key_in : ℕ → List Value → PlacedKey
key_in n key = record { set = set_id n; key = key }

abbrev pub linked_by : ℕ → Link → PlacedLink
linked_by n link = record { assoc = assoc_id n; link = link }

-- the principals of given entities
abbrev pub first_asked : EntityModel → List Placed → List PlacedKey
first_asked model given = flat_map (λ one. principals model one.set one.entity) given

-- all that given entities ask for: these, what the plain entities with their keys ask for, and so on
abbrev pub asked_by : EntityModel → List Placed → List PlacedKey
asked_by model given = support model 0 given (first_asked model given)

-- the state of given entities and links, and of all that they ask for
abbrev pub state_of : EntityModel → List Placed → List PlacedLink → State
state_of model given links = supported model 0 given (asked_by model given) links
