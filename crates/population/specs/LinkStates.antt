-- States with a link, or two, between plain entities at the ends of an association.
-- Source: this project's choice of the states that it shows; CSDL version 3, AssociationSet, End and Multiplicity.
use Rattle.std.specs.Prelude.{◌≡◌, ◌≢◌, ◌+◌, ℕ, List, [], ◌∷◌, map, flat_map, Contains, Bool, true, false, not}
use Rattle.round_trip.specs.Words.{SetId, AssocId, PropId, Value, EntityModel, Assoc, End, Entity, Link, State, IsA, IsLegal, entities_in, key_of, links_in, value_beside}
use Rattle.round_trip.specs.soundness.Lookups.{set_key}
use Rattle.schema_laws.specs.short_values.Fresh.{first_end_key, fresh_at, second_end_key, second_key}
use Rattle.schema_laws.specs.short_values.Places.{place_in}
use Rattle.population.specs.Plain.{plain}
use Rattle.population.specs.Numbered.{end_of}
use Rattle.population.specs.Principals.{principals}
use Rattle.population.specs.Supported.{Placed, PlacedLink, end_key, link_of, supported}
use Rattle.population.specs.Support.{support}

-- an end, and the first of the indices of a key at it
pub record PlainEnd : Type 0 where
  pub end : End
  pub index : ℕ

module _ (model : EntityModel) (outer : ℕ) where
  -- the key of a set whose parts have these indices, one after the other
  abbrev pub key_from : SetId → ℕ → List Value
  key_from u index = map (λ p. fresh_at model outer p (index + place_in p (set_key model u))) (set_key model u)

  -- the key at the end, and the plain entity of it
  abbrev pub key_at : PlainEnd → List Value
  key_at one = key_from one.end.set one.index

  abbrev pub entity_at : PlainEnd → Entity
  entity_at one = plain model outer 0 one.end.ty (key_at one)

  abbrev pub placed_at : PlainEnd → Placed
  placed_at one = record { set = one.end.set; entity = entity_at one }

  -- the state with these entities and links, and what supports them
  abbrev pub plain_state : List PlainEnd → List PlacedLink → State
  plain_state ends links =
      supported model outer (map placed_at ends) (support model outer (map placed_at ends) (flat_map (λ one. principals model one.end.set (entity_at one)) ends)) links

  -- the entities at both ends of an association, and another one at the end
  abbrev pub at_first : Assoc → PlainEnd
  at_first assoc = record { end = assoc.first; index = first_end_key 0 }

  abbrev pub at_second : Assoc → PlainEnd
  at_second assoc = record { end = assoc.second; index = second_end_key 0 }

  abbrev pub at_end : Bool → Assoc → PlainEnd
  at_end true assoc = at_first assoc
  at_end false assoc = at_second assoc

  abbrev pub other_at : Bool → Assoc → PlainEnd
  other_at first assoc = record { end = end_of first assoc; index = second_key 0 }

  -- the link between them
  abbrev pub plain_link : Assoc → Link
  plain_link assoc = record { first = key_at (at_first assoc); second = key_at (at_second assoc) }

  -- a link from the entity at this end to the other one at the other end
  abbrev pub other_link : Bool → Assoc → Link
  other_link first assoc = link_of first (key_at (at_end first assoc)) (key_at (other_at (not first) assoc))

  abbrev pub of_assoc : AssocId → Link → PlacedLink
  of_assoc a link = record { assoc = a; link = link }

  -- the state with the link, and the one without it
  abbrev pub link_state : AssocId → Assoc → State
  link_state a assoc = plain_state (at_first assoc ∷ (at_second assoc ∷ [])) (of_assoc a (plain_link assoc) ∷ [])

  abbrev pub unlinked_state : AssocId → Assoc → State
  unlinked_state a assoc = plain_state (at_first assoc ∷ (at_second assoc ∷ [])) []

  -- the state in which the entity at an end has two partners
  abbrev pub two_links_state : AssocId → Bool → Assoc → State
  two_links_state a first assoc = plain_state (at_first assoc ∷ (at_second assoc ∷ (other_at (not first) assoc ∷ []))) (of_assoc a (plain_link assoc) ∷ (of_assoc a (other_link first assoc) ∷ []))

-- the state is legal and holds the link, whose ends are these entities
pub record HoldsLink (model : EntityModel) (outer : ℕ) (a : AssocId) (assoc : Assoc) (state : State) : Type 0 where
  pub legal : IsLegal model state
  pub linked : Contains (links_in state a) (plain_link model outer assoc)
  pub ends : (first : Bool) → Contains (entities_in state (end_of first assoc).set) (entity_at model outer (at_end model outer first assoc))
  pub keys : (first : Bool) → key_of model (entity_at model outer (at_end model outer first assoc)) ≡ key_at model outer (at_end model outer first assoc)
  pub typed : (first : Bool) → IsA model (entity_at model outer (at_end model outer first assoc)).ty (end_of first assoc).ty

-- and a second link of the entity at this end, to a partner whose key differs in each part
pub record HoldsTwoLinks (model : EntityModel) (outer : ℕ) (a : AssocId) (first : Bool) (assoc : Assoc) (state : State) : Type 0 where
  pub one : HoldsLink model outer a assoc state
  pub two : Contains (links_in state a) (other_link model outer first assoc)
  pub of_one : end_key first (other_link model outer first assoc) ≡ end_key first (plain_link model outer assoc)
  pub apart : (p : PropId) → Contains (set_key model (end_of (not first) assoc).set) p
      → value_beside p (set_key model (end_of (not first) assoc).set) (end_key (not first) (plain_link model outer assoc))
      ≢ value_beside p (set_key model (end_of (not first) assoc).set) (end_key (not first) (other_link model outer first assoc))

-- two legal states hold the same entities, and the same links of other associations; the link stands in the one alone
pub record DifferInLink (model : EntityModel) (outer : ℕ) (a : AssocId) (assoc : Assoc) (c d : State) : Type 0 where
  pub one : HoldsLink model outer a assoc c
  pub legal : IsLegal model d
  pub without : ¬ Contains (links_in d a) (plain_link model outer assoc)
  pub entities : (u : SetId) → entities_in c u ≡ entities_in d u
  pub links : (b : AssocId) → b ≢ a → links_in c b ≡ links_in d b
