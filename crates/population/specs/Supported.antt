-- Supported states: given entities and links, with plain entities at some keys, those of all numbers, and the links that these ask for.
-- Source: this project's choice of the states that it shows; CSDL version 3, AssociationSet and Multiplicity.
use Rattle.std.specs.Prelude.{◌==◌, ◌&&◌, ℕ, List, [], ◌++◌, map, filter, length, slice_get, Bool, true, false, not, None, Some, Option, if◌then◌else◌}
use Rattle.std.specs.List.{list_any}
use Rattle.std.specs.Option.{option_map_or}
use Rattle.round_trip.specs.Words.{SetId, AssocId, Value, EntityModel, EntitySet, Assoc, Constraint, Mult, Entity, Link, State, key_of}
use Rattle.edm_types.specs.declared.model.Mult.TheVariants.{One, ZeroOrOne, Many}
use Rattle.schema_laws.specs.sound_demand.Deriving.{derives}
use Rattle.schema_laws.specs.short_values.Numbers.{numbers_from}
use Rattle.schema_laws.specs.state_demand.Selecting.{same_key}
use Rattle.population.specs.Plain.{plain}
use Rattle.population.specs.Numbered.{all_numbered, end_number, end_of, numbered_key}
use Rattle.population.specs.Principals.{PlacedKey}
pub use Rattle.population.specs.declared.placed.Placed.{Placed}
pub use Rattle.population.specs.declared.placed.PlacedLink.{PlacedLink}

-- the key at an end of a link
abbrev pub end_key : Bool → Link → List Value
end_key true link = link.first
end_key false link = link.second

-- the link with this key at the end, and this at the other
abbrev pub link_of : Bool → List Value → List Value → Link
link_of true key other = record { first = key; second = other }
link_of false key other = record { first = other; second = key }

-- the multiplicity is `1`
abbrev pub is_one : Mult → Bool
is_one One = true
is_one ZeroOrOne = false
is_one Many = false

abbrev pub is_none : Option Constraint → Bool
is_none None = true
is_none (Some constraint) = false

-- the given entities of a set
abbrev pub given_in : List Placed → SetId → List Entity
given_in given u = map (λ placed. placed.entity) (filter (λ placed. placed.set.index == u.index) given)

-- the keys of a set
abbrev pub keys_in : List PlacedKey → SetId → List (List Value)
keys_in keys u = map (λ placed. placed.key) (filter (λ placed. placed.set.index == u.index) keys)

-- the given links of an association
abbrev pub links_of : List PlacedLink → AssocId → List Link
links_of links a = map (λ placed. placed.link) (filter (λ placed. placed.assoc.index == a.index) links)

-- whether one of these links is an entity's own
abbrev pub has_own_link : EntityModel → Bool → List Link → Entity → Bool
has_own_link model first links entity = list_any (λ link. same_key (end_key first link) (key_of model entity)) links

-- whether an entity is to have a link at the end, and none of these is its own
abbrev pub lacks_link : EntityModel → Bool → Assoc → List Link → Entity → Bool
lacks_link model first assoc links entity = derives model entity.ty (end_of first assoc).ty && not (has_own_link model first links entity)

-- a link from an entity to the one that has the number of the other end
abbrev pub added_link : EntityModel → ℕ → Bool → AssocId → Assoc → Entity → Link
added_link model outer first a assoc entity = link_of first (key_of model entity) (numbered_key model outer (end_of (not first) assoc).set (end_number (not first) a))

module _ (model : EntityModel) (outer : ℕ) (given : List Placed) (keys : List PlacedKey) where
  -- the entities of a set: those of all numbers, the given ones, and a plain one for each key
  abbrev pub all_in : SetId → EntitySet → List Entity
  all_in u set = all_numbered model outer u set ++ (given_in given u ++ map (plain model outer 0 set.element) (keys_in keys u))

  abbrev pub stands_in : SetId → List Entity
  stands_in u = option_map_or (all_in u) (slice_get model.sets u.index) []

  -- the links that are added for the entities at an end, where the other end asks for exactly one partner
  abbrev pub added_at : Bool → AssocId → Assoc → List Link → List Link
  added_at first a assoc links =
      if is_one (end_of (not first) assoc).mult then map (added_link model outer first a assoc) (filter (lacks_link model first assoc links) (stands_in (end_of first assoc).set)) else []

  -- the links of an association: the given ones, and those that are added to them
  abbrev pub all_links : AssocId → List Link → Assoc → List Link
  all_links a links assoc = if is_none assoc.constraint then links ++ (added_at true a assoc links ++ added_at false a assoc links) else []

  module _ (links : List PlacedLink) where
    abbrev pub linked_in : AssocId → List Link
    linked_in a = option_map_or (all_links a (links_of links a)) (slice_get model.assocs a.index) []

    -- the supported state
    abbrev pub supported : State
    supported = record {
      entities = map (λ n. stands_in (record { index = n })) (numbers_from 0 (length model.sets));
      links = map (λ n. linked_in (record { index = n })) (numbers_from 0 (length model.assocs));
    }
