-- The small part of a supported state, made without the rest of it.
-- Source: this project's choice of the states that it shows; CSDL version 3, AssociationSet, Multiplicity and ReferentialConstraint.
use Rattle.std.specs.Prelude.{◌≡◌, ◌==◌, ◌&&◌, ℕ, List, [], ◌++◌, map, filter, flat_map, length, slice_get, Contains, Bool, true, false, not, if◌then◌else◌}
use Rattle.std.specs.List.{enumerate_from}
use Rattle.std.specs.Option.{option_map_or}
use Rattle.round_trip.specs.Words.{SetId, AssocId, Value, EntityModel, EntitySet, Assoc, Entity, Link, State, key_of}
use Rattle.round_trip.specs.soundness.Lookups.{set_key}
use Rattle.schema_laws.specs.short_values.Numbers.{numbers_from}
use Rattle.schema_laws.specs.state_demand.Selecting.{same_key}
use Rattle.population.specs.Plain.{plain}
use Rattle.population.specs.Numbered.{end_number, end_of, number_count, numbered, numbered_key}
use Rattle.population.specs.Principals.{PlacedKey, principals}
use Rattle.population.specs.Supported.{added_link, end_key, given_in, is_none, is_one, keys_in, lacks_link, links_of, supported}
use Rattle.population.specs.Kept.{key_at_end, key_in}
use Rattle.population.specs.declared.placed.Supporting.{Supporting}

-- each key has as many parts as the key of its set
pub record AreWhole (model : EntityModel) (keys : List PlacedKey) : Type 0 where
  pub long : (u : SetId) (key : List Value) → Contains (keys_in keys u) key → length key ≡ length (set_key model u)

module _ (model : EntityModel) (outer : ℕ) (one : Supporting) where
  -- the state that is made of these
  abbrev pub state_of : State
  state_of = supported model outer one.given one.keys one.links

  -- the entities of a set with a key: of a number, a given one, or a plain one
  abbrev pub numbered_at : SetId → EntitySet → List Value → List Entity
  numbered_at u set key = map (numbered model outer u set) (filter (λ n. same_key (numbered_key model outer u n) key) (numbers_from 0 (number_count model)))

  abbrev pub plain_at : SetId → EntitySet → List Value → List Entity
  plain_at u set key = map (plain model outer 0 set.element) (filter (λ own. same_key own key) (keys_in one.keys u))

  abbrev pub all_at : PlacedKey → EntitySet → List Entity
  all_at placed set = numbered_at placed.set set placed.key
      ++ (filter (λ entity. same_key (key_of model entity) placed.key) (given_in one.given placed.set) ++ plain_at placed.set set placed.key)

  abbrev pub entities_at : PlacedKey → List Entity
  entities_at placed = option_map_or (all_at placed) (slice_get model.sets placed.set.index) []

  -- the links of the entity with this key at the end: the given ones, and that which is added where it has none
  abbrev pub links_from : PlacedKey → Bool → AssocId → Assoc → List Link
  links_from placed first a assoc = filter (λ link. same_key (end_key first link) placed.key) (links_of one.links a)
      ++ map (added_link model outer first a assoc) (filter (lacks_link model first assoc (links_of one.links a)) (entities_at placed))

  -- the partners that the other end of an association asks of it, where that end is `1`
  abbrev pub partners_from : PlacedKey → Bool → AssocId → Assoc → List PlacedKey
  partners_from placed first a assoc =
      if is_none assoc.constraint && (is_one (end_of (not first) assoc).mult && ((end_of first assoc).set.index == placed.set.index))
      then map (key_at_end (not first) assoc) (links_from placed first a assoc) else []

  abbrev pub partners_of : PlacedKey → ℕ × Assoc → List PlacedKey
  partners_of placed entry = partners_from placed true (record { index = entry.0 }) entry.1 ++ partners_from placed false (record { index = entry.0 }) entry.1

  -- what the entity with this key needs: its principals, and the partners that are asked of it
  abbrev pub needs_of : PlacedKey → List PlacedKey
  needs_of placed = flat_map (principals model placed.set) (entities_at placed) ++ flat_map (partners_of placed) (enumerate_from 0 model.assocs)

  module _ (needed : PlacedKey → Bool) where
    -- the entities of a set whose keys are needed
    abbrev pub needed_in : SetId → EntitySet → List Entity
    needed_in u set = map (numbered model outer u set) (filter (λ n. needed (record { set = u; key = numbered_key model outer u n })) (numbers_from 0 (number_count model)))
        ++ (filter (λ entity. needed (key_in model u entity)) (given_in one.given u)
        ++ map (plain model outer 0 set.element) (filter (λ key. needed (record { set = u; key = key })) (keys_in one.keys u)))

    abbrev pub needed_entities : SetId → List Entity
    needed_entities u = option_map_or (needed_in u) (slice_get model.sets u.index) []

    -- the links that are added for them at an end, where the other end asks for exactly one partner and that is needed
    abbrev pub needed_added : Bool → AssocId → Assoc → List Link
    needed_added first a assoc =
        if is_one (end_of (not first) assoc).mult
        && needed (record { set = (end_of (not first) assoc).set; key = numbered_key model outer (end_of (not first) assoc).set (end_number (not first) a) })
        then map (added_link model outer first a assoc) (filter (lacks_link model first assoc (links_of one.links a)) (needed_entities (end_of first assoc).set)) else []

    -- the links of an association between entities whose keys are needed
    abbrev pub needed_links : AssocId → Assoc → List Link
    needed_links a assoc = if is_none assoc.constraint
        then filter (λ link. needed (key_at_end true assoc link) && needed (key_at_end false assoc link)) (links_of one.links a)
        ++ (needed_added true a assoc ++ needed_added false a assoc) else []

    -- the part of the state that holds them
    abbrev pub part_made : State
    part_made = record {
      entities = map (λ n. needed_entities (record { index = n })) (numbers_from 0 (length model.sets));
      links = map (λ n. option_map_or (needed_links (record { index = n })) (slice_get model.assocs n) []) (numbers_from 0 (length model.assocs));
    }
