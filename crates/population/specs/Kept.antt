-- Parts of states: what some entities need, principals and partners, and nothing else.
-- Source: CSDL version 3, AssociationSet, Multiplicity and ReferentialConstraint; this project's choice of the states that it shows.
use Rattle.std.specs.Prelude.{◌≡◌, ◌↔◌, ◌==◌, ◌&&◌, ℕ, suc, List, [], ◌++◌, map, filter, flat_map, length, slice_get, Contains, Bool, true, false, not, IsTrue, if◌then◌else◌}
use Rattle.std.specs.List.{enumerate_from, list_any}
use Rattle.std.specs.Option.{option_map_or}
use Rattle.round_trip.specs.Words.{SetId, AssocId, EntityModel, Assoc, Entity, Link, State, At, entities_in, key_of, links_in}
use Rattle.edm_types.specs.declared.model.Mult.TheVariants.{One}
use Rattle.schema_laws.specs.short_values.Numbers.{numbers_from}
use Rattle.schema_laws.specs.state_demand.MadeTables.{distinct}
use Rattle.schema_laws.specs.state_demand.Selecting.{same_key}
use Rattle.population.specs.Numbered.{end_of}
use Rattle.population.specs.Principals.{AsksFor, PlacedKey, principals}
use Rattle.population.specs.Supported.{end_key, is_one}
use Rattle.population.specs.Least.{grown}
use Rattle.population.specs.Support.{same_placed}

-- the key at an end of a link, in the set of the end
abbrev pub key_at_end : Bool → Assoc → Link → PlacedKey
key_at_end first assoc link = record { set = (end_of first assoc).set; key = end_key first link }

module _ (model : EntityModel) where
  -- the key of an entity, in its set
  abbrev pub key_in : SetId → Entity → PlacedKey
  key_in u entity = record { set = u; key = key_of model entity }

  module _ (keep : SetId → Entity → Bool) (state : State) where
    -- the entities of a set that are kept
    abbrev pub kept_in : SetId → List Entity
    kept_in u = filter (keep u) (entities_in state u)

    -- whether an entity that is kept stands at the end of a link
    abbrev pub has_end : Bool → Assoc → Link → Bool
    has_end first assoc link = list_any (λ entity. same_key (key_of model entity) (end_key first link)) (kept_in (end_of first assoc).set)

    -- whether entities that are kept stand at both ends of a link
    abbrev pub has_ends : Assoc → Link → Bool
    has_ends assoc link = has_end true assoc link && has_end false assoc link

    -- the links of an association between entities that are kept
    abbrev pub kept_links : AssocId → List Link
    kept_links a = option_map_or (λ assoc. filter (has_ends assoc) (links_in state a)) (slice_get model.assocs a.index) []

    -- the part of the state that holds these entities, and the links between them
    abbrev pub kept_state : State
    kept_state = record {
      entities = map (λ n. kept_in (record { index = n })) (numbers_from 0 (length model.sets));
      links = map (λ n. kept_links (record { index = n })) (numbers_from 0 (length model.assocs));
    }

  -- an entity asks for a principal, and the other one is it
  pub record AsksPrincipal (state : State) (u : SetId) (entity : Entity) (to : PlacedKey) (other : Entity) : Type 0 where
    pub stands : Contains (entities_in state u) entity
    pub asks : Contains (principals model u entity) to
    pub other_stands : Contains (entities_in state to.set) other
    pub other_key : key_of model other ≡ to.key

  -- two entities stand at the ends of a link, and the other one's end asks for exactly one partner
  pub record AsksPartner (state : State) (first : Bool) (assoc : Assoc) (entity other : Entity) : Type 0 where
    pub a : AssocId
    pub link : Link
    pub is_assoc : At model.assocs a.index assoc
    pub is_link : Contains (links_in state a) link
    pub one : (end_of (not first) assoc).mult ≡ One
    pub stands : Contains (entities_in state (end_of first assoc).set) entity
    pub at_key : key_of model entity ≡ end_key first link
    pub other_stands : Contains (entities_in state (end_of (not first) assoc).set) other
    pub other_key : key_of model other ≡ end_key (not first) link

  -- each principal of an entity that is kept is kept, and each partner of it that an end `1` asks for
  pub record IsClosed (keep : SetId → Entity → Bool) (state : State) : Type 0 where
    pub principal : (u : SetId) (entity : Entity) (to : PlacedKey) (other : Entity) → AsksPrincipal state u entity to other → IsTrue (keep u entity) → IsTrue (keep to.set other)
    pub partner : (first : Bool) (assoc : Assoc) (entity other : Entity) → AsksPartner state first assoc entity other
        → IsTrue (keep (end_of first assoc).set entity) → IsTrue (keep (end_of (not first) assoc).set other)

  -- the entities of a state with a key
  abbrev pub at_key : State → PlacedKey → List Entity
  at_key state placed = filter (λ entity. same_key (key_of model entity) placed.key) (entities_in state placed.set)

  -- the partners that the other end of an association asks of the entity with this key, where that end is `1`
  abbrev pub partners_by : State → PlacedKey → Bool → AssocId → Assoc → List PlacedKey
  partners_by state placed first a assoc =
      if is_one (end_of (not first) assoc).mult && ((end_of first assoc).set.index == placed.set.index)
      then map (key_at_end (not first) assoc) (filter (λ link. same_key (end_key first link) placed.key) (links_in state a)) else []

  -- the partners that an association asks of it, at either end
  abbrev pub partners_at : State → PlacedKey → ℕ × Assoc → List PlacedKey
  partners_at state placed entry =
      partners_by state placed true (record { index = entry.0 }) entry.1 ++ partners_by state placed false (record { index = entry.0 }) entry.1

  -- what the entity with this key needs in a state: its principals, and the partners that are asked of it
  abbrev pub needs : State → PlacedKey → List PlacedKey
  needs state placed = flat_map (principals model placed.set) (at_key state placed) ++ flat_map (partners_at state placed) (enumerate_from 0 model.assocs)

  -- an entity with this key stands in the state, and asks for the principal
  pub record AsksAtKey (state : State) (from to : PlacedKey) : Type 0 where
    pub entity : Entity
    pub stands : Contains (entities_in state from.set) entity
    pub keyed : key_of model entity ≡ from.key
    pub asks : AsksFor model from.set entity to

  -- a link of the state joins the two keys, and the other one's end asks for exactly one partner
  pub record IsJoinedToOne (state : State) (from to : PlacedKey) : Type 0 where
    pub a : AssocId
    pub assoc : Assoc
    pub is_assoc : At model.assocs a.index assoc
    pub link : Link
    pub is_link : Contains (links_in state a) link
    pub first : Bool
    pub one : (end_of (not first) assoc).mult ≡ One
    pub from_end : from ≡ key_at_end first assoc link
    pub to_end : to ≡ key_at_end (not first) assoc link

  -- what it needs in any of these states
  abbrev pub needs_in : List State → PlacedKey → List PlacedKey
  needs_in states placed = flat_map (λ state. needs state placed) states

  -- the keys of a state's entities
  abbrev pub keys_of_state : State → List PlacedKey
  keys_of_state state = flat_map (λ n. map (key_in (record { index = n })) (entities_in state (record { index = n }))) (numbers_from 0 (length model.sets))

  module _ (states : List State) (roots : List PlacedKey) where
    -- the roots, and what is needed in one of the states by them, by that, and so on
    abbrev pub needed_keys : List PlacedKey
    needed_keys = grown same_placed (needs_in states) (suc (length (roots ++ flat_map keys_of_state states))) (distinct same_placed roots)

    -- whether an entity has a needed key
    abbrev pub is_needed : SetId → Entity → Bool
    is_needed u entity = list_any (same_placed (key_in u entity)) needed_keys

    -- the part of a state that holds what is needed
    abbrev pub part_of : State → State
    part_of state = kept_state is_needed state

    -- the list holds the roots, and what each of its keys needs
    pub record HoldsNeeds (keys : List PlacedKey) : Type 0 where
      pub holds : (root : PlacedKey) → Contains roots root → Contains keys root
      pub leads : (from to : PlacedKey) → Contains keys from → Contains (needs_in states from) to → Contains keys to

    -- the needed keys are the least such list
    pub record AreNeeded : Type 0 where
      pub needs : HoldsNeeds needed_keys
      pub least : (keys : List PlacedKey) → HoldsNeeds keys → (placed : PlacedKey) → Contains needed_keys placed → Contains keys placed

    -- the part of a state holds those of its entities whose keys are needed, and the links between them
    pub record HoldsNeeded (state : State) : Type 0 where
      pub entities : (u : SetId) (entity : Entity) → Contains (entities_in (part_of state) u) entity
          ↔ (Contains (entities_in state u) entity × Contains needed_keys (key_in u entity))
      pub links : (a : AssocId) (assoc : Assoc) → At model.assocs a.index assoc → (link : Link) → Contains (links_in (part_of state) a) link
          ↔ (Contains (links_in state a) link × ((first : Bool) → Contains needed_keys (key_at_end first assoc link)))

    -- where two states have an entity or a link alike, so have their parts
    pub record AreAlikeAs (one two : State) : Type 0 where
      pub entities : (u : SetId) (entity : Entity) → (Contains (entities_in one u) entity ↔ Contains (entities_in two u) entity)
          → (Contains (entities_in (part_of one) u) entity ↔ Contains (entities_in (part_of two) u) entity)
      pub links : (a : AssocId) (link : Link) → (Contains (links_in one a) link ↔ Contains (links_in two a) link)
          → (Contains (links_in (part_of one) a) link ↔ Contains (links_in (part_of two) a) link)
      -- and so it is with the links that pass a test
      pub passing : (test : Link → Bool) (a : AssocId) (link : Link) → (Contains (filter test (links_in one a)) link ↔ Contains (filter test (links_in two a)) link)
          → (Contains (filter test (links_in (part_of one) a)) link ↔ Contains (filter test (links_in (part_of two) a)) link)
