-- What the part of a state writes that the writers of a row need: to this row the same as the state, and elsewhere nothing else.
use Rattle.std.proofs.Common.{◌≡◌, inl, inr, List, [], ◌∷◌, filter, flat_map, Contains, Bool, true, false, refl, sym, ap, subst, ◌∙◌}
use Rattle.std.specs.Option.{option_map_or}
use Rattle.std.proofs.lemmas.List.Elements.{Contains-append_left, Contains-append_right}
use Rattle.emc_base.specs.Lists.{At}
use Rattle.emc_base.proofs.FoundItems.{contains_flat_map}
use Rattle.emc_base.proofs.Lists.{only_member, only_stands}
use Rattle.emc_base.proofs.Mapped.{contains_filter, contains_map}
use Rattle.emc_base.proofs.Members.{contains_head, contains_tail}
use Rattle.round_trip.specs.Words.{SetId, TableId, ColId, AssocId, Value, Assoc, Entity, Fragment, Link, LinkFragment, Schema, State, DemandsCell, DemandsRow, HasNoClash, IsLegal, Writes, WritesRow, Writing, entities_in, links_in, written_key}
use Rattle.round_trip.specs.soundness.mappings.Mappings.{IsSoundSchema}
use Rattle.schema_laws.specs.state_demand.MadeTables.{is_to_row}
use Rattle.schema_laws.specs.state_demand.Writings.{entity_writing, link_writing}
use Rattle.schema_laws.proofs.state_demand.writings.Demanded.{Decides-row}
use Rattle.population.specs.Kept.{HoldsNeeded, key_at_end, key_in, needed_keys}
use Rattle.population.specs.Principals.{PlacedKey}
use Rattle.population.specs.RowStates.{entity_writers, keys_at_ends, link_writers, links_to_row, row_state, row_writers}
use Rattle.population.proofs.pruning.Needed.{root_needed}
use Rattle.population.proofs.pruning.NeededParts.{holds_needed, needed_parts}

module _ (schema : Schema) (state : State) (t : TableId) (key : List Value) where
  to_row_too : (writing other : Writing) → writing ≡ other → writing.table ≡ t → written_key schema.store writing ≡ key
      → (other.table ≡ t) × (written_key schema.store other ≡ key)
  to_row_too writing other is to_table to_key = (sym (ap (λ (one : Writing). one.table) is) ∙ to_table, sym (ap (written_key schema.store) is) ∙ to_key)

  -- an entity that is written to the row is one of the writers
  pub entity_among : (fragment : Fragment) → Contains schema.mapping.fragments fragment → (entity : Entity) → Contains (entities_in state fragment.set) entity
      → (fragment.table ≡ t) × (written_key schema.store (entity_writing schema.model fragment entity) ≡ key)
      → Contains (row_writers schema state t key) (key_in schema.model fragment.set entity)
  entity_among fragment mapped entity stands to_row =
      let writers : Fragment → List PlacedKey = entity_writers schema state t key in
      let to : Entity → Bool = λ one. is_to_row schema.store t key (entity_writing schema.model fragment one) in
      let placed : PlacedKey = key_in schema.model fragment.set entity in
      Contains-append_left (flat_map writers schema.mapping.fragments) (flat_map (link_writers schema state t key) schema.mapping.links) placed
      (contains_flat_map writers schema.mapping.fragments fragment placed mapped
      (contains_map (key_in schema.model fragment.set) (filter to (entities_in state fragment.set)) entity
      (contains_filter to (entities_in state fragment.set) entity stands ((Decides-row schema.store t key (entity_writing schema.model fragment entity)).1 to_row))))

  -- and so are the entities at both ends of a link
  pub link_among : (fragment : LinkFragment) → Contains schema.mapping.links fragment → (assoc : Assoc) → At schema.model.assocs fragment.assoc.index assoc
      → (link : Link) → Contains (links_in state fragment.assoc) link
      → (fragment.table ≡ t) × (written_key schema.store (link_writing schema.model fragment assoc link) ≡ key)
      → (first : Bool) → Contains (row_writers schema state t key) (key_at_end first assoc link)
  link_among fragment mapped assoc here link stands to_row first =
      let writers : LinkFragment → List PlacedKey = link_writers schema state t key in
      let to : Link → Bool = λ one. is_to_row schema.store t key (link_writing schema.model fragment assoc one) in
      let placed : PlacedKey = key_at_end first assoc link in
      let among : Contains (links_to_row schema state t key fragment assoc) placed =
      contains_flat_map (keys_at_ends assoc) (filter to (links_in state fragment.assoc)) link placed
      (contains_filter to (links_in state fragment.assoc) link stands ((Decides-row schema.store t key (link_writing schema.model fragment assoc link)).1 to_row)) (at first) in
      Contains-append_right (flat_map (entity_writers schema state t key) schema.mapping.fragments) (flat_map writers schema.mapping.links) placed
      (contains_flat_map writers schema.mapping.links fragment placed mapped
      (subst (λ found. Contains (option_map_or (links_to_row schema state t key fragment) found []) placed) (sym here) among))
    where
      at : (side : Bool) → Contains (keys_at_ends assoc link) (key_at_end side assoc link)
      at true = contains_head (key_at_end true assoc link) (key_at_end false assoc link ∷ [])
      at false = contains_tail (key_at_end true assoc link) (key_at_end false assoc link ∷ []) (key_at_end false assoc link) (contains_head (key_at_end false assoc link) [])

  module _ (sound : IsSoundSchema schema) (legal : IsLegal schema.model state) where
    abbrev part : State
    part = row_state schema state t key

    abbrev needed : List PlacedKey
    needed = needed_keys schema.model (state ∷ []) (row_writers schema state t key)

    pub legal_part : IsLegal schema.model part
    legal_part = needed_parts schema.model sound.model (state ∷ [])
        (λ one has. subst (IsLegal schema.model) (sym (only_member (state ∷ []) state one refl has)) legal) (row_writers schema state t key) state (only_stands (state ∷ []) state refl)

    held : HoldsNeeded schema.model (state ∷ []) (row_writers schema state t key) state
    held = holds_needed schema.model (state ∷ []) (row_writers schema state t key) state legal

    needed_writer : (placed : PlacedKey) → Contains (row_writers schema state t key) placed → Contains needed placed
    needed_writer = root_needed schema.model (state ∷ []) (row_writers schema state t key)

    -- the part holds nothing but what the state holds
    pub entity_stood : (u : SetId) (entity : Entity) → Contains (entities_in part u) entity → Contains (entities_in state u) entity
    entity_stood u entity has = ((held.entities u entity).0 has).0

    pub link_stood : (a : AssocId) (assoc : Assoc) → At schema.model.assocs a.index assoc → (link : Link) → Contains (links_in part a) link → Contains (links_in state a) link
    link_stood a assoc here link has = ((held.links a assoc here link).0 has).0

    -- and all that is written to the row
    pub entity_stays : (fragment : Fragment) → Contains schema.mapping.fragments fragment → (entity : Entity) → Contains (entities_in state fragment.set) entity
        → (fragment.table ≡ t) × (written_key schema.store (entity_writing schema.model fragment entity) ≡ key) → Contains (entities_in part fragment.set) entity
    entity_stays fragment mapped entity stands to_row =
        (held.entities fragment.set entity).1 (stands, needed_writer (key_in schema.model fragment.set entity) (entity_among fragment mapped entity stands to_row))

    pub link_stays : (fragment : LinkFragment) → Contains schema.mapping.links fragment → (assoc : Assoc) → At schema.model.assocs fragment.assoc.index assoc
        → (link : Link) → Contains (links_in state fragment.assoc) link
        → (fragment.table ≡ t) × (written_key schema.store (link_writing schema.model fragment assoc link) ≡ key) → Contains (links_in part fragment.assoc) link
    link_stays fragment mapped assoc here link stands to_row =
        (held.links fragment.assoc assoc here link).1
        (stands, λ first. needed_writer (key_at_end first assoc link) (link_among fragment mapped assoc here link stands to_row first))

    -- what the part writes the state writes
    writes_too : (writing : Writing) → Writes schema part writing → Writes schema state writing
    writes_too writing (inl (fragment, entity, writes, is)) =
        inl (fragment, entity, record { mapped = writes.mapped; stands = entity_stood fragment.set entity writes.stands; selected = writes.selected }, is)
    writes_too writing (inr (fragment, assoc, link, writes, is)) =
        inr (fragment, assoc, link, record { mapped = writes.mapped; is_assoc = writes.is_assoc; stands = link_stood fragment.assoc assoc writes.is_assoc link writes.stands }, is)

    writes_still : (writing : Writing) → writing.table ≡ t → written_key schema.store writing ≡ key → Writes schema state writing → Writes schema part writing
    writes_still writing to_table to_key (inl (fragment, entity, writes, is)) =
        let to_row = to_row_too writing (entity_writing schema.model fragment entity) is to_table to_key in
        inl (fragment, entity, record { mapped = writes.mapped; stands = entity_stays fragment writes.mapped entity writes.stands to_row; selected = writes.selected }, is)
    writes_still writing to_table to_key (inr (fragment, assoc, link, writes, is)) =
        let to_row = to_row_too writing (link_writing schema.model fragment assoc link) is to_table to_key in
        inr (
          fragment,
          assoc,
          link,
          record { mapped = writes.mapped; is_assoc = writes.is_assoc; stands = link_stays fragment writes.mapped assoc writes.is_assoc link writes.stands to_row },
          is,
        )

    -- what the part demands the state demands
    row_too : (u : TableId) (of : List Value) (writing : Writing) → WritesRow schema part u of writing → WritesRow schema state u of writing
    row_too u of writing row = record { writes = writes_too writing row.writes; to_table = row.to_table; to_key = row.to_key }

    pub demands_row_too : (u : TableId) (of : List Value) → DemandsRow schema part u of → DemandsRow schema state u of
    demands_row_too u of (writing, row) = (writing, row_too u of writing row)

    pub demands_cell_too : (u : TableId) (of : List Value) (col : ColId) (value : Value) → DemandsCell schema part u of col value → DemandsCell schema state u of col value
    demands_cell_too u of col value (writing, row, fills) = (writing, row_too u of writing row, fills)

    -- and at the row also the other way round
    row_still : (writing : Writing) → WritesRow schema state t key writing → WritesRow schema part t key writing
    row_still writing row = record { writes = writes_still writing row.to_table row.to_key row.writes; to_table = row.to_table; to_key = row.to_key }

    pub demands_row_still : DemandsRow schema state t key → DemandsRow schema part t key
    demands_row_still (writing, row) = (writing, row_still writing row)

    pub demands_cell_still : (col : ColId) (value : Value) → DemandsCell schema state t key col value → DemandsCell schema part t key col value
    demands_cell_still col value (writing, row, fills) = (writing, row_still writing row, fills)

    -- so the part has no clash where the state has none
    pub no_clash_left : HasNoClash schema state → HasNoClash schema part
    no_clash_left none u of col one two first second = none u of col one two (demands_cell_too u of col one first) (demands_cell_too u of col two second)
