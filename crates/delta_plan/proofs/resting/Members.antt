-- The units of a state are its entities and its links; which of them are touched.
use Rattle.std.proofs.Common.{◌≡◌, ◌==◌, ◌∙◌, ⊎_elim, ℕ, List, [], Bool, true, false, true≢false, Contains, Option, Some, None, slice_get, unwrap_or}
use Rattle.std.proofs.Common.{if◌then◌else◌, refl, sym, subst}
use Rattle.std.specs.List.{enumerate_from, list_any}
use Rattle.std.proofs.lemmas.Bool.Decides.{Decides-eqb}
use Rattle.std.proofs.lemmas.List.Elements.{Contains-append_cases, Contains-append_left, Contains-append_right}
use Rattle.emc_base.specs.Lists.{At}
use Rattle.emc_base.proofs.FoundItems.{contains_flat_map, some_member}
use Rattle.emc_base.proofs.Joined.{in_flat_map}
use Rattle.emc_base.proofs.Mapped.{contains_enumerated, contains_map}
use Rattle.emc_base.proofs.Members.{contains_nil}
use Rattle.emc_base.proofs.Numbered.{enumerated_at, map_contains}
use Rattle.round_trip.specs.Words.{AssocId, Entity, Link, SetId, State, Value, entities_in, links_in}
use Rattle.schema_laws.proofs.state_demand.lists.Lists.{Decides-any}
use Rattle.schema_laws.proofs.state_demand.writings.Selecting.{Decides-key}
use Rattle.schema_laws.specs.state_demand.Selecting.{same_key}
use Rattle.entity_changes.specs.Changes.{same_link}
use Rattle.entity_changes.specs.declared.touched.Touched.{Touched}
use Rattle.delta_plan.specs.Units.{Unit, assoc_units, entity_units, is_touched_key, is_touched_link, link_units, of_entity, of_link, set_units, units_of}

-- a member of the list at a place
placed : {X : Type 0} (lists : List (List X)) (i : ℕ) (list : List X) (x : X) → At lists i list → Contains list x
    → Contains (unwrap_or (slice_get lists i) []) x
placed {X} lists i list x here has = subst (λ (found : Option (List X)). Contains (unwrap_or found []) x) (sym here) has

at_place : {X : Type 0} (lists : List (List X)) (i : ℕ) (x : X) → Contains (unwrap_or (slice_get lists i) []) x
    → (list : List X) × At lists i list × Contains list x
at_place {X} lists i x has = by (slice_get lists i) refl has
  where
    by : (found : Option (List X)) → slice_get lists i ≡ found → Contains (unwrap_or found []) x → (list : List X) × At lists i list × Contains list x
    by None is none = absurd (contains_nil x none)
    by (Some list) is there = (list, is, there)

module _ (state : State) where
  -- an entity of the state is a unit
  pub unit_of_entity : (s : SetId) (entity : Entity) → Contains (entities_in state s) entity → Contains (units_of state) (of_entity s entity)
  unit_of_entity s entity has =
      let found = at_place state.entities s.index entity has in
      Contains-append_left (entity_units state) (link_units state) (of_entity s entity)
      (contains_flat_map set_units (enumerate_from 0 state.entities) (s.index, found.0) (of_entity s entity)
      (contains_enumerated state.entities s.index found.0 found.1)
      (contains_map (of_entity s) found.0 entity found.2))

  pub unit_of_link : (a : AssocId) (link : Link) → Contains (links_in state a) link → Contains (units_of state) (of_link a link)
  unit_of_link a link has =
      let found = at_place state.links a.index link has in
      Contains-append_right (entity_units state) (link_units state) (of_link a link)
      (contains_flat_map assoc_units (enumerate_from 0 state.links) (a.index, found.0) (of_link a link)
      (contains_enumerated state.links a.index found.0 found.1)
      (contains_map (of_link a) found.0 link found.2))

  -- what stands at a unit
  abbrev Stands : Unit → Type 0
  Stands (of_entity s entity) = Contains (entities_in state s) entity
  Stands (of_link a link) = Contains (links_in state a) link

  pub stands : (unit : Unit) → Contains (units_of state) unit → Stands unit
  stands unit has = ⊎_elim
      (λ (first : Contains (entity_units state) unit).
      (let from = in_flat_map set_units (enumerate_from 0 state.entities) unit first in
      let one = map_contains (of_entity (record { index = from.0.0 })) from.0.1 unit from.2 in
      subst Stands one.2 (placed state.entities from.0.0 from.0.1 one.0 (enumerated_at state.entities from.0 from.1) one.1)))
      (λ (second : Contains (link_units state) unit).
      (let from = in_flat_map assoc_units (enumerate_from 0 state.links) unit second in
      let one = map_contains (of_link (record { index = from.0.0 })) from.0.1 unit from.2 in
      subst Stands one.2 (placed state.links from.0.0 from.0.1 one.0 (enumerated_at state.links from.0 from.1) one.1)))
      (Contains-append_cases (entity_units state) (link_units state) unit has)

-- what a test finds in no item doesn't stand there
none_there : {X : Type 0} (test : X → Bool) (xs : List X) (x : X) → list_any test xs ≡ false → test x ≡ true → ¬ Contains xs x
none_there {X} test xs x none passes has =
    let Passes : X → Type 0 = λ one. test one ≡ true in
    true≢false (sym ((Decides-any test Passes (λ one. (λ told. told, λ told. told)) xs).1 (some_member Passes xs x has passes)) ∙ none)

by_both : (one two : Bool) → one ≡ true → two ≡ true → (if one then two else false) ≡ true
by_both true two is both = both
by_both false two is both = absurd cc

-- what isn't told as touched isn't
pub key_untouched : (touched : Touched) (s : SetId) (key : List Value) → is_touched_key touched s key ≡ false → ¬ Contains touched.entities (s, key)
key_untouched touched s key none = none_there (λ (one : SetId × List Value). if one.0.index == s.index then same_key one.1 key else false) touched.entities
    (s, key) none
    (by_both (s.index == s.index) (same_key key key) ((Decides-eqb s.index s.index).1 refl) ((Decides-key key key).1 refl))

pub link_untouched : (touched : Touched) (a : AssocId) (link : Link) → is_touched_link touched a link ≡ false → ¬ Contains touched.links (a, link)
link_untouched touched a link none = none_there (λ (one : AssocId × Link). if one.0.index == a.index then same_link one.1 link else false) touched.links
    (a, link) none
    (by_both (a.index == a.index) (same_link link link) ((Decides-eqb a.index a.index).1 refl)
    (by_both (same_key link.first link.first) (same_key link.second link.second) ((Decides-key link.first link.first).1 refl)
    ((Decides-key link.second link.second).1 refl)))
