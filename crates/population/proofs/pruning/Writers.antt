-- The writers of a row are the entities that fragments write to it, and the ends of the links that link fragments write to it.
use Rattle.std.proofs.Common.{◌≡◌, ◌↔◌, ◌⊎◌, ⊎_elim, inl, inr, List, [], ◌∷◌, filter, flat_map, slice_get, Contains, Bool, true, false, Option, Some, None, refl, sym, subst}
use Rattle.std.specs.Option.{option_map_or}
use Rattle.std.proofs.lemmas.List.Elements.{Contains-append_cases}
use Rattle.emc_base.proofs.Joined.{in_flat_map}
use Rattle.emc_base.proofs.Members.{contains_cons_cases, contains_nil, in_map}
use Rattle.emc_base.proofs.Numbered.{filter_contains}
use Rattle.round_trip.specs.Words.{TableId, Value, Assoc, Entity, Fragment, Link, LinkFragment, Schema, State, entities_in, links_in}
use Rattle.schema_laws.specs.state_demand.MadeTables.{is_to_row}
use Rattle.schema_laws.specs.state_demand.Writings.{entity_writing, link_writing}
use Rattle.schema_laws.proofs.state_demand.writings.Demanded.{Decides-row}
use Rattle.population.specs.Kept.{key_at_end, key_in}
use Rattle.population.specs.Principals.{PlacedKey}
use Rattle.population.specs.RowStates.{IsEntityWriter, IsLinkWriter, entity_writers, keys_at_ends, link_writers, links_to_row, row_writers}
use Rattle.population.proofs.pruning.RowStates.{entity_among, link_among}

module _ (schema : Schema) (state : State) (t : TableId) (key : List Value) (placed : PlacedKey) where
  entity_writer : Contains (flat_map (entity_writers schema state t key) schema.mapping.fragments) placed → IsEntityWriter schema state t key placed
  entity_writer has =
      let found = in_flat_map (entity_writers schema state t key) schema.mapping.fragments placed has in
      let fragment : Fragment = found.0 in
      let to : Entity → Bool = λ entity. is_to_row schema.store t key (entity_writing schema.model fragment entity) in
      let made = in_map (key_in schema.model fragment.set) (filter to (entities_in state fragment.set)) placed found.2 in
      let stands = filter_contains to (entities_in state fragment.set) made.0 made.1 in
      let told = (Decides-row schema.store t key (entity_writing schema.model fragment made.0)).0 stands.1 in
      record { fragment = fragment; mapped = found.1; to_table = told.0; entity = made.0; stands = stands.0; to_key = told.1; is = sym made.2 }

  -- the key is that at one of the two ends
  end_named : (assoc : Assoc) (link : Link) → Contains (keys_at_ends assoc link) placed → (first : Bool) × (placed ≡ key_at_end first assoc link)
  end_named assoc link has = ⊎_elim
      (λ (one : placed ≡ key_at_end true assoc link). (true, one))
      (λ (later : Contains (key_at_end false assoc link ∷ []) placed). ⊎_elim
      (λ (two : placed ≡ key_at_end false assoc link). (false, two))
      (λ (never : Contains [] placed). absurd (contains_nil placed never))
      (contains_cons_cases (key_at_end false assoc link) [] placed later))
      (contains_cons_cases (key_at_end true assoc link) (key_at_end false assoc link ∷ []) placed has)

  assoc_of : (fragment : LinkFragment) (found : Option Assoc) → Contains (option_map_or (links_to_row schema state t key fragment) found []) placed
      → (assoc : Assoc) × (found ≡ Some assoc) × Contains (links_to_row schema state t key fragment assoc) placed
  assoc_of fragment (Some assoc) has = (assoc, refl, has)
  assoc_of fragment None has = absurd (contains_nil placed has)

  link_writer : Contains (flat_map (link_writers schema state t key) schema.mapping.links) placed → IsLinkWriter schema state t key placed
  link_writer has =
      let found = in_flat_map (link_writers schema state t key) schema.mapping.links placed has in
      let fragment : LinkFragment = found.0 in
      let of = assoc_of fragment (slice_get schema.model.assocs fragment.assoc.index) found.2 in
      let to : Link → Bool = λ link. is_to_row schema.store t key (link_writing schema.model fragment of.0 link) in
      let made = in_flat_map (keys_at_ends of.0) (filter to (links_in state fragment.assoc)) placed of.2 in
      let stands = filter_contains to (links_in state fragment.assoc) made.0 made.1 in
      let told = (Decides-row schema.store t key (link_writing schema.model fragment of.0 made.0)).0 stands.1 in
      let end = end_named of.0 made.0 made.2 in
      record {
        fragment = fragment;
        mapped = found.1;
        to_table = told.0;
        assoc = of.0;
        is_assoc = of.1;
        link = made.0;
        stands = stands.0;
        to_key = told.1;
        first = end.0;
        is = end.1;
      }

  writer_of : IsEntityWriter schema state t key placed ⊎ IsLinkWriter schema state t key placed → Contains (row_writers schema state t key) placed
  writer_of (inl by) = subst (Contains (row_writers schema state t key)) (sym by.is)
      (entity_among schema state t key by.fragment by.mapped by.entity by.stands (by.to_table, by.to_key))
  writer_of (inr by) = subst (Contains (row_writers schema state t key)) (sym by.is)
      (link_among schema state t key by.fragment by.mapped by.assoc by.is_assoc by.link by.stands (by.to_table, by.to_key) by.first)

  pub writers_are : Contains (row_writers schema state t key) placed ↔ (IsEntityWriter schema state t key placed ⊎ IsLinkWriter schema state t key placed)
  writers_are = (
    (λ has. ⊎_elim
        (λ (one : Contains (flat_map (entity_writers schema state t key) schema.mapping.fragments) placed). inl (entity_writer one))
        (λ (one : Contains (flat_map (link_writers schema state t key) schema.mapping.links) placed). inr (link_writer one))
        (Contains-append_cases (flat_map (entity_writers schema state t key) schema.mapping.fragments) (flat_map (link_writers schema state t key) schema.mapping.links) placed has)),
    writer_of,
  )
