-- The list of what a state writes holds just that.
use Rattle.std.proofs.Common.{◌≡◌, inl, inr, ⊎_elim, [], map, flat_map, slice_get, Option, Some, None, Bool, Contains, refl, sym, subst}
use Rattle.std.specs.Option.{option_map_or}
use Rattle.std.proofs.lemmas.List.Elements.{Contains-append_cases, Contains-append_left, Contains-append_right}
use Rattle.emc_base.proofs.Mapped.{contains_filter, contains_map}
use Rattle.emc_base.proofs.Numbered.{filter_contains, map_contains}
use Rattle.round_trip.specs.Words.{TypeId, Assoc, Fragment, LinkFragment, Schema, State, Entity, Link, entities_in, links_in, Writing, EntityWrites, LinkWrites}
use Rattle.schema_laws.specs.state_demand.Selecting.{DecidesTypes, selects}
use Rattle.schema_laws.specs.state_demand.Writings.{AreWritings, entity_writing, link_writing, selected_by, writings_by, link_writings_by, writings_of}
use Rattle.schema_laws.proofs.state_demand.lists.Lists.{contains_flat_map, member_of_flat_map, none_in_nil}
use Rattle.schema_laws.proofs.state_demand.writings.Selecting.{Decides-selects}

module _ (is_a : TypeId → TypeId → Bool) (schema : Schema) (decides : DecidesTypes schema.model is_a) (state : State) where
  -- what an entity or a link writes
  abbrev ByEntity : Writing → Type 0
  ByEntity writing = (fragment : Fragment) × (entity : Entity) × EntityWrites schema state fragment entity × (writing ≡ entity_writing schema.model fragment entity)

  abbrev ByLink : Writing → Type 0
  ByLink writing = (fragment : LinkFragment) × (assoc : Assoc) × (link : Link) × LinkWrites schema state fragment assoc link ×
      (writing ≡ link_writing schema.model fragment assoc link)

  entity_listed : (writing : Writing) → ByEntity writing → Contains (flat_map (writings_by is_a schema state) schema.mapping.fragments) writing
  entity_listed writing (fragment, entity, writes, is) =
      let kept = contains_filter (selects is_a schema.model fragment) (entities_in state fragment.set) entity writes.stands
      ((Decides-selects schema.model is_a decides fragment entity).1 writes.selected) in
      contains_flat_map (writings_by is_a schema state) schema.mapping.fragments fragment writing writes.mapped
      (let P : Writing → Type 0 = λ w. Contains (writings_by is_a schema state fragment) w in
      subst P (sym is) (contains_map (entity_writing schema.model fragment) (selected_by is_a schema state fragment) entity kept))

  listed_entity : (writing : Writing) → Contains (flat_map (writings_by is_a schema state) schema.mapping.fragments) writing → ByEntity writing
  listed_entity writing has =
      let found = member_of_flat_map (writings_by is_a schema state) schema.mapping.fragments writing has in
      let fragment : Fragment = found.0 in
      let image = map_contains (entity_writing schema.model fragment) (selected_by is_a schema state fragment) writing found.2 in
      let kept = filter_contains (selects is_a schema.model fragment) (entities_in state fragment.set) image.0 image.1 in
      (fragment, image.0, record { mapped = found.1; stands = kept.0; selected = (Decides-selects schema.model is_a decides fragment image.0).0 kept.1 }, sym image.2)

  link_listed : (writing : Writing) → ByLink writing → Contains (flat_map (link_writings_by is_a schema state) schema.mapping.links) writing
  link_listed writing (fragment, assoc, link, writes, is) =
      contains_flat_map (link_writings_by is_a schema state) schema.mapping.links fragment writing writes.mapped
      (let P : Option Assoc → Type 0 = λ found. Contains (option_map_or (λ one. map (link_writing schema.model fragment one) (links_in state fragment.assoc)) found []) writing in
      let Q : Writing → Type 0 = λ w. Contains (map (link_writing schema.model fragment assoc) (links_in state fragment.assoc)) w in
      subst P (sym writes.is_assoc) (subst Q (sym is) (contains_map (link_writing schema.model fragment assoc) (links_in state fragment.assoc) link writes.stands)))

  listed_link : (writing : Writing) → Contains (flat_map (link_writings_by is_a schema state) schema.mapping.links) writing → ByLink writing
  listed_link writing has =
      let found = member_of_flat_map (link_writings_by is_a schema state) schema.mapping.links writing has in
      by found.0 found.1 (slice_get schema.model.assocs found.0.assoc.index) refl found.2
    where
      by : (fragment : LinkFragment) → Contains schema.mapping.links fragment → (one : Option Assoc) → slice_get schema.model.assocs fragment.assoc.index ≡ one
          → Contains (option_map_or (λ assoc. map (link_writing schema.model fragment assoc) (links_in state fragment.assoc)) one []) writing → ByLink writing
      by fragment mapped None is there = absurd (none_in_nil writing there)
      by fragment mapped (Some assoc) is there =
          let image = map_contains (link_writing schema.model fragment assoc) (links_in state fragment.assoc) writing there in
          (fragment, assoc, image.0, record { mapped = mapped; is_assoc = is; stands = image.1 }, sym image.2)

  pub are_writings : AreWritings schema state (writings_of is_a schema state)
  are_writings =
      let first = flat_map (writings_by is_a schema state) schema.mapping.fragments in
      let second = flat_map (link_writings_by is_a schema state) schema.mapping.links in
      record {
        tells = λ writing. (
          (λ writes. ⊎_elim
              (λ (one : ByEntity writing). Contains-append_left first second writing (entity_listed writing one))
              (λ (one : ByLink writing). Contains-append_right first second writing (link_listed writing one))
              writes),
          (λ has. ⊎_elim
              (λ (one : Contains first writing). inl (listed_entity writing one))
              (λ (one : Contains second writing). inr (listed_link writing one))
              (Contains-append_cases first second writing has)),
        );
      }
