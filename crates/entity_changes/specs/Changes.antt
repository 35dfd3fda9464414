-- Changes of entities and links: the state that they lead to, one behind the other.
-- Source: the changes that a context of the Entity Framework tracks: added, modified and deleted entities, added and deleted links.
use Rattle.std.specs.Prelude.{◌<◌, List, [], ◌∷◌, ◌++◌, map, filter, set, length, not, Bool, false, if◌then◌else◌}
use Rattle.round_trip.specs.Words.{SetId, AssocId, EntityModel, Assoc, Entity, Link, At, State, IsEntity, IsLink, entities_in, links_in, key_of}
use Rattle.schema_laws.specs.state_demand.Selecting.{same_key}
use Rattle.entity_changes.specs.declared.change.Change.{Change}
use Rattle.entity_changes.specs.declared.change.Change.TheVariants as change

-- the links have one key at each end
abbrev pub same_link : Link → Link → Bool
same_link one other = if same_key one.first other.first then same_key one.second other.second else false

-- the state with other entities in a set, or other links in an association set
abbrev pub with_entities : State → SetId → List Entity → State
with_entities state s entities = record { entities = set state.entities s.index entities; links = state.links }

abbrev pub with_links : State → AssocId → List Link → State
with_links state a links = record { entities = state.entities; links = set state.links a.index links }

module _ (model : EntityModel) where
  -- the state after a change: what comes stands behind the others, and what takes the place of another stands in its place
  abbrev pub after_one : State → Change → State
  after_one state (change.Insert s entity) = with_entities state s (entities_in state s ++ entity ∷ [])
  after_one state (change.Update s entity) = with_entities state s
      (map (λ old. if same_key (key_of model old) (key_of model entity) then entity else old) (entities_in state s))
  after_one state (change.Delete s key) = with_entities state s (filter (λ old. not (same_key (key_of model old) key)) (entities_in state s))
  after_one state (change.Link a link) = with_links state a (links_in state a ++ link ∷ [])
  after_one state (change.Unlink a link) = with_links state a (filter (λ old. not (same_link old link)) (links_in state a))

  -- the state after some changes, one behind the other
  abbrev pub after : State → List Change → State
  after state [] = state
  after state (one ∷ changes) = after (after_one state one) changes

  -- a change of a set or an association set of the model, with an entity or a link as they are there
  abbrev pub IsChange : Change → Type 0
  IsChange (change.Insert s entity) = (s.index < length model.sets) × IsEntity model entity
  IsChange (change.Update s entity) = (s.index < length model.sets) × IsEntity model entity
  IsChange (change.Delete s key) = s.index < length model.sets
  IsChange (change.Link a link) = (assoc : Assoc) × At model.assocs a.index assoc × IsLink model assoc link
  IsChange (change.Unlink a link) = (assoc : Assoc) × At model.assocs a.index assoc × IsLink model assoc link
