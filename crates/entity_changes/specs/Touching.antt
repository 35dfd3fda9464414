-- What changes touch, and states that differ only there.
-- Source: this project's.
use Rattle.std.specs.Prelude.{◌≡◌, ◌↔◌, List, Contains, slice_get, Some, Bool, Any}
use Rattle.emc_base.specs.Lists.{AreApart}
use Rattle.round_trip.specs.Words.{SetId, AssocId, LinkFragId, Value, EntityModel, Assoc, Entity, Link, At, State, entities_in, links_in, key_of}
use Rattle.table_owners.specs.declared.places.LinkPlace.TheVariants as place
use Rattle.cells.specs.declared.cells.Cells.{Cells}
use Rattle.cells.specs.HostedLinks.{host_key, host_set, hosted_links}
use Rattle.entity_changes.specs.declared.change.Change.{Change}
use Rattle.entity_changes.specs.declared.change.Change.TheVariants as change
use Rattle.entity_changes.specs.declared.touched.Touched.{Touched}

-- the links of the association set stand in a table of their own
abbrev pub IsJoined : Cells → AssocId → Type 0
IsJoined cells a = (number : LinkFragId) × (slice_get cells.places a.index ≡ Some (place.Joined number))

-- the entity of the key hosts the link
pub record Hosts (model : EntityModel) (cells : Cells) (a : AssocId) (link : Link) (s : SetId) (key : List Value) : Type 0 where
  pub assoc : Assoc
  pub is_assoc : At model.assocs a.index assoc
  pub first_hosts : Bool
  pub number : LinkFragId
  pub place_is : slice_get cells.places a.index ≡ Some (place.Hosted first_hosts number)
  pub set_is : host_set first_hosts assoc ≡ s
  pub key_is : host_key first_hosts link ≡ key

module _ (model : EntityModel) (cells : Cells) where
  -- a change touches the entity of a key: it changes it, or a link that it hosts
  abbrev pub TouchesEntity : Change → SetId × List Value → Type 0
  TouchesEntity (change.Insert s entity) one = (s, key_of model entity) ≡ one
  TouchesEntity (change.Update s entity) one = (s, key_of model entity) ≡ one
  TouchesEntity (change.Delete s key) one = (s, key) ≡ one
  TouchesEntity (change.Link a link) one = Hosts model cells a link one.0 one.1
  TouchesEntity (change.Unlink a link) one = Hosts model cells a link one.0 one.1

  -- a change touches a link of a joined association set: it changes it
  abbrev pub TouchesLink : Change → AssocId × Link → Type 0
  TouchesLink (change.Link a link) one = ((a, link) ≡ one) × IsJoined cells a
  TouchesLink (change.Unlink a link) one = ((a, link) ≡ one) × IsJoined cells a
  TouchesLink _ one = ⊥

  -- what some changes touch is listed, each once
  pub record TellsTouched (changes : List Change) (touched : Touched) : Type 0 where
    pub entities : (one : SetId × List Value) → Contains touched.entities one ↔ Any (λ some. TouchesEntity some one) changes
    pub links : (one : AssocId × Link) → Contains touched.links one ↔ Any (λ some. TouchesLink some one) changes
    pub entities_once : AreApart touched.entities
    pub links_once : AreApart touched.links

  -- an entity that isn't touched stands in both states, with the same links that it hosts in one order, or in neither; and so does a link of a joined
  -- association set
  pub record DifferOnlyAt (touched : Touched) (old new : State) : Type 0 where
    pub entities : (s : SetId) (entity : Entity) → ¬ Contains touched.entities (s, key_of model entity)
        → Contains (entities_in old s) entity ↔ Contains (entities_in new s) entity
    pub hosted : (s : SetId) (entity : Entity) → ¬ Contains touched.entities (s, key_of model entity) → Contains (entities_in old s) entity
        → hosted_links model cells old s (key_of model entity) ≡ hosted_links model cells new s (key_of model entity)
    pub links : (a : AssocId) (link : Link) → IsJoined cells a → ¬ Contains touched.links (a, link) → Contains (links_in old a) link ↔ Contains (links_in new a) link
