-- What a state writes, as a list.
-- Source: MSL version 3, MappingFragment, ScalarProperty, EndProperty and Condition; the update views of Melnik, Adya and Bernstein,
-- SIGMOD 2007.
use Rattle.std.specs.Prelude.{◌↔◌, List, [], ◌++◌, Bool, map, filter, flat_map, slice_get, Contains}
use Rattle.std.specs.Option.{option_map_or}
use Rattle.round_trip.specs.Words.{TypeId, EntityModel, Assoc, Fragment, LinkFragment, Schema, Entity, Link, State, entities_in, links_in, Writing, Writes, entity_cells, link_cells}
use Rattle.schema_laws.specs.state_demand.Selecting.{selects}

-- these are the writings of the state, in any order and any number
pub record AreWritings (schema : Schema) (state : State) (writings : List Writing) : Type 0 where
  pub tells : (writing : Writing) → Writes schema state writing ↔ Contains writings writing

-- what an entity writes by a fragment
abbrev pub entity_writing : EntityModel → Fragment → Entity → Writing
entity_writing model fragment entity = record { table = fragment.table; cells = entity_cells model fragment entity; conds = fragment.conds }

-- what a link writes by a link fragment
abbrev pub link_writing : EntityModel → LinkFragment → Assoc → Link → Writing
link_writing model fragment assoc link = record { table = fragment.table; cells = link_cells model assoc fragment link; conds = fragment.conds }

module _ (is_a : TypeId → TypeId → Bool) (schema : Schema) (state : State) where
  -- the entities that a fragment selects
  abbrev pub selected_by : Fragment → List Entity
  selected_by fragment = filter (selects is_a schema.model fragment) (entities_in state fragment.set)

  -- what they write
  abbrev pub writings_by : Fragment → List Writing
  writings_by fragment = map (entity_writing schema.model fragment) (selected_by fragment)

  -- what the links of a link fragment write
  abbrev pub link_writings_by : LinkFragment → List Writing
  link_writings_by fragment =
      option_map_or (λ assoc. map (link_writing schema.model fragment assoc) (links_in state fragment.assoc)) (slice_get schema.model.assocs fragment.assoc.index) []

  -- what the state writes
  abbrev pub writings_of : List Writing
  writings_of = flat_map writings_by schema.mapping.fragments ++ flat_map link_writings_by schema.mapping.links
