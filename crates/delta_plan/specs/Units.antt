-- The entities and the links of a state one by one, and those that are touched.
-- Source: this project's.
use Rattle.std.specs.Prelude.{◌==◌, ℕ, List, ◌++◌, map, filter, length, Bool, false, if◌then◌else◌}
use Rattle.std.specs.List.{enumerate_from, flat_map, list_any}
use Rattle.round_trip.specs.Words.{SetId, AssocId, Value, EntityModel, Entity, Link, State, key_of}
use Rattle.schema_laws.specs.state_demand.Selecting.{same_key}
use Rattle.entity_changes.specs.Changes.{same_link}
use Rattle.entity_changes.specs.declared.touched.Touched.{Touched}

-- an entity of a set, or a link of an association set
pub data Unit : Type 0 where
  of_entity : SetId → Entity → Unit
  of_link : AssocId → Link → Unit

-- the entities of a numbered set, and the links of a numbered association set
abbrev pub set_units : ℕ × List Entity → List Unit
set_units entry = map (of_entity (record { index = entry.0 })) entry.1

abbrev pub assoc_units : ℕ × List Link → List Unit
assoc_units entry = map (of_link (record { index = entry.0 })) entry.1

-- the entities of a state, set by set; its links, association set by association set; and all of them
abbrev pub entity_units : State → List Unit
entity_units state = flat_map set_units (enumerate_from 0 state.entities)

abbrev pub link_units : State → List Unit
link_units state = flat_map assoc_units (enumerate_from 0 state.links)

abbrev pub units_of : State → List Unit
units_of state = entity_units state ++ link_units state

-- whether the key in the set is touched, and whether the link is
abbrev pub is_touched_key : Touched → SetId → List Value → Bool
is_touched_key touched s key = list_any (λ one. if one.0.index == s.index then same_key one.1 key else false) touched.entities

abbrev pub is_touched_link : Touched → AssocId → Link → Bool
is_touched_link touched a link = list_any (λ one. if one.0.index == a.index then same_link one.1 link else false) touched.links

module _ (model : EntityModel) (touched : Touched) where
  -- whether it is touched
  abbrev pub is_touched : Unit → Bool
  is_touched (of_entity s entity) = is_touched_key touched s (key_of model entity)
  is_touched (of_link a link) = is_touched_link touched a link

  -- how many entities the state has at touched keys
  abbrev pub count_at : State → ℕ
  count_at state = length (filter is_touched (entity_units state))
