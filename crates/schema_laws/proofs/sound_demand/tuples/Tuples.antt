-- Whether a fragment agrees with a state's tables is decided at each key, for every sound schema.
use Rattle.std.proofs.Common.{◌≡◌, ◌↔◌, List, ◌++◌, map, Contains, refl, sym, subst, ◌∙◌}
use Rattle.emc_base.proofs.Lists.{at_once}
use Rattle.round_trip.specs.Words.{SetId, Assoc, Entity, Fragment, Link, LinkFragment, Pair, Row, Schema, State, Table, Tables, At, Selects, TablesAre, IsLegal, LinkWrites, IsWrittenTuple, IsShownTuple, IsWrittenLinkTuple, IsShownLinkTuple, AreSameTuples, entities_in, entity_cells, link_cells, cells_of, links_in, row_key, rows_in, written_key}
use Rattle.round_trip.specs.soundness.mappings.Mappings.{IsSoundSchema}
use Rattle.schema_laws.specs.state_demand.ByRows.{IsLinkedAt, IsSelectedAt}
use Rattle.schema_laws.specs.state_demand.Owners.{IsJoinedTo, IsLinkOf, IsOwned, StandsAt}
use Rattle.schema_laws.specs.state_demand.WellWritten.{cols_of}
use Rattle.schema_laws.specs.state_demand.Writings.{entity_writing, link_writing}
use Rattle.schema_laws.proofs.state_demand.tables.ByRows.{entity_tuple, fragment_by_rows, link_fragment_by_rows, link_tuple}
use Rattle.schema_laws.proofs.state_demand.owners.Owners.{entity_key, host_of, link_key, one}
use Rattle.schema_laws.specs.sound_demand.ReadBack.{AgreesAtEntities, AgreesAtHosts, HasLinkOf, IsRowOfLink, ShowsEveryRow}
use Rattle.schema_laws.proofs.sound_demand.Fitting.{well_written}
use Rattle.schema_laws.proofs.sound_demand.Keys.{inherits_keys}
use Rattle.schema_laws.proofs.sound_demand.ReadBack.{rows_of, rows_of_links}
use Rattle.schema_laws.proofs.state_demand.owners.Owning.{of_owner}

module _ (schema : Schema) (sound : IsSoundSchema schema) (state : State) (legal : IsLegal schema.model state) (tables : Tables) (are : TablesAre schema state tables) where
  -- a fragment of the set that owns the table
  module _ (fragment : Fragment) (mapped : Contains schema.mapping.fragments fragment) (table : Table) (here : At schema.store.tables fragment.table.index table)
      (owner : SetId) (pairing : List Pair) (owned : IsOwned schema fragment.table owner pairing) where
    -- the fragment's set is the owner
    pub in_owner : (entity : Entity) → Contains (entities_in state fragment.set) entity → Contains (entities_in state owner) entity
    in_owner entity has =
        let of_set = (of_owner schema fragment.table owner pairing owned fragment mapped refl).of_set in
        subst (λ (s : SetId). Contains (entities_in state s) entity) of_set has

    pub in_set : (entity : Entity) → Contains (entities_in state owner) entity → Contains (entities_in state fragment.set) entity
    in_set entity has =
        let of_set = (of_owner schema fragment.table owner pairing owned fragment mapped refl).of_set in
        subst (λ (s : SetId). Contains (entities_in state s) entity) (sym of_set) has

    -- an entity writes to the row at which it stands
    writes_to : (row : Row) (entity : Entity) → StandsAt schema state owner pairing (row_key table row) entity
        → written_key schema.store (entity_writing schema.model fragment entity) ≡ row_key table row
    writes_to row entity stands =
        entity_key schema (inherits_keys schema.model sound.model) fragment.table owner pairing owned state legal fragment mapped refl entity ∙ stands.at_key

    pub at_entity : (row : Row) (entity : Entity) → StandsAt schema state owner pairing (row_key table row) entity → IsSelectedAt schema state fragment table row
        ↔ Selects schema.model fragment entity
    at_entity row entity stands = (
      (λ at.
          let key = entity_key schema (inherits_keys schema.model sound.model) fragment.table owner pairing owned state legal fragment mapped refl at.entity in
          let other : StandsAt schema state owner pairing (row_key table row) at.entity = record { stands = in_owner at.entity at.stands; at_key = sym key ∙ at.at_row } in
          let same = one schema (inherits_keys schema.model sound.model) fragment.table owner pairing owned state legal (row_key table row) at.entity entity other stands in
          subst (Selects schema.model fragment) same at.selected),
      (λ selects. record { entity = entity; stands = in_set entity stands.stands; selected = selects; at_row = writes_to row entity stands }),
    )

    pub agrees_at_entities : AreSameTuples (IsWrittenTuple schema state fragment) (IsShownTuple tables fragment)
        ↔ AgreesAtEntities schema state tables owner pairing fragment table
    agrees_at_entities =
        let by_rows = fragment_by_rows schema (well_written schema sound) state tables are fragment mapped table here in
        let read = rows_of schema sound state legal tables are fragment.table table here owner pairing owned in (
          (λ same row has entity stands.
              let agrees = by_rows.0 same row has in
              let at = at_entity row entity stands in
              ((λ selects. agrees.0 (at.1 selects)), (λ shows. at.0 (agrees.1 shows)))),
          (λ agrees. by_rows.1 (λ row has.
              let found = read.entities row has in
              let at = at_entity row found.0 found.1 in
              let told = agrees row has found.0 found.1 in
              ((λ selected. told.0 (at.0 selected)), (λ shows. at.1 (told.1 shows))))),
        )

    -- what an entity writes is what its row holds
    pub same_tuple : (row : Row) → Contains (rows_in tables fragment.table) row → (entity : Entity) → StandsAt schema state owner pairing (row_key table row) entity
        → Selects schema.model fragment entity
        → map (λ cell. cell.1) (entity_cells schema.model fragment entity) ≡ cells_of row (cols_of fragment.pairs)
    same_tuple row has entity stands selects =
        entity_tuple schema (well_written schema sound) state tables are fragment mapped table here entity (in_set entity stands.stands) selects row has
        (writes_to row entity stands)

  -- a link fragment to the table
  module _ (fragment : LinkFragment) (mapped : Contains schema.mapping.links fragment) (table : Table) (here : At schema.store.tables fragment.table.index table)
      (assoc : Assoc) (is_assoc : At schema.model.assocs fragment.assoc.index assoc) where
    writes_link : (link : Link) → Contains (links_in state fragment.assoc) link → LinkWrites schema state fragment assoc link
    writes_link link has = record { mapped = mapped; is_assoc = is_assoc; stands = has }

    -- the link is of the fragment's association
    key_of_linked : (row : Row) (at : IsLinkedAt schema state fragment table row) → written_key schema.store (link_writing schema.model fragment assoc at.link) ≡ row_key table row
    key_of_linked row at =
        let same : at.assoc ≡ assoc = at_once schema.model.assocs fragment.assoc.index at.assoc assoc at.is_assoc is_assoc in
        let P : Assoc → Type 0 = λ a. written_key schema.store (link_writing schema.model fragment a at.link) ≡ row_key table row in
        subst P same at.at_row

    module _ (owner : SetId) (pairing : List Pair) (owned : IsOwned schema fragment.table owner pairing) where
      -- a link that is hosted at an entity writes to the row at which this stands
      link_to : (row : Row) (entity : Entity) → StandsAt schema state owner pairing (row_key table row) entity → (link : Link) → Contains (links_in state fragment.assoc) link
          → IsLinkOf schema owner pairing assoc fragment link entity → written_key schema.store (link_writing schema.model fragment assoc link) ≡ row_key table row
      link_to row entity stands link has of_entity =
          link_key schema (inherits_keys schema.model sound.model) fragment.table owner pairing owned state legal fragment assoc link
          (writes_link link has) refl entity stands.stands of_entity ∙ stands.at_key

      pub at_host : (row : Row) (entity : Entity) → StandsAt schema state owner pairing (row_key table row) entity → IsLinkedAt schema state fragment table row
          ↔ HasLinkOf schema state owner pairing assoc fragment entity
      at_host row entity stands = (
        (λ at.
            let writes = writes_link at.link at.stands in
            let host = host_of schema (inherits_keys schema.model sound.model) fragment.table owner pairing owned state legal fragment assoc at.link writes refl in
            let key = link_key schema
            (inherits_keys schema.model sound.model) fragment.table owner pairing owned state legal fragment assoc at.link writes refl host.0 host.1 host.2 in
            let other : StandsAt schema state owner pairing (row_key table row) host.0 = record { stands = host.1; at_key = sym key ∙ key_of_linked row at } in
            let same = one schema (inherits_keys schema.model sound.model) fragment.table owner pairing owned state legal (row_key table row) host.0 entity other stands in
            let P : Entity → Type 0 = λ x. IsLinkOf schema owner pairing assoc fragment at.link x in
            (at.link, at.stands, subst P same host.2)),
        (λ by. record { assoc = assoc; link = by.0; is_assoc = is_assoc; stands = by.1; at_row = link_to row entity stands by.0 by.1 by.2 }),
      )

      pub agrees_at_hosts : AreSameTuples (IsWrittenLinkTuple schema state fragment) (IsShownLinkTuple tables fragment)
          ↔ AgreesAtHosts schema state tables owner pairing fragment assoc table
      agrees_at_hosts =
          let by_rows = link_fragment_by_rows schema (well_written schema sound) state tables are fragment mapped table here in
          let read = rows_of schema sound state legal tables are fragment.table table here owner pairing owned in (
            (λ same row has entity stands.
                let agrees = by_rows.0 same row has in
                let at = at_host row entity stands in
                ((λ by. agrees.0 (at.1 by)), (λ shows. at.0 (agrees.1 shows)))),
            (λ agrees. by_rows.1 (λ row has.
                let found = read.entities row has in
                let at = at_host row found.0 found.1 in
                let agree = agrees row has found.0 found.1 in
                ((λ linked. agree.0 (at.0 linked)), (λ shows. at.1 (agree.1 shows))))),
          )

      pub same_link_tuple : (row : Row) → Contains (rows_in tables fragment.table) row → (entity : Entity) → StandsAt schema state owner pairing (row_key table row) entity
          → (link : Link) → Contains (links_in state fragment.assoc) link → IsLinkOf schema owner pairing assoc fragment link entity
          → map (λ cell. cell.1) (link_cells schema.model assoc fragment link) ≡ cells_of row (cols_of (fragment.first ++ fragment.second))
      same_link_tuple row has entity stands link has_link of_entity =
          link_tuple schema (well_written schema sound) state tables are fragment mapped table here assoc is_assoc link has_link row has
          (link_to row entity stands link has_link of_entity)

    module _ (joined : IsJoinedTo schema fragment.table fragment assoc) where
      -- each row is a link's
      pub linked : (row : Row) → Contains (rows_in tables fragment.table) row → IsLinkedAt schema state fragment table row
      linked row has =
          let found = (rows_of_links schema sound state legal tables are fragment.table table here fragment assoc joined).links row has in
          record { assoc = assoc; link = found.0; is_assoc = is_assoc; stands = found.1; at_row = sym found.2 }

      pub shows_every_row : AreSameTuples (IsWrittenLinkTuple schema state fragment) (IsShownLinkTuple tables fragment) ↔ ShowsEveryRow tables fragment
      shows_every_row =
          let by_rows = link_fragment_by_rows schema (well_written schema sound) state tables are fragment mapped table here in (
            (λ same row has. (by_rows.0 same row has).0 (linked row has)),
            (λ shows. by_rows.1 (λ row has. ((λ _. shows row has), (λ _. linked row has)))),
          )

      pub joined_tuple : (row : Row) → Contains (rows_in tables fragment.table) row → (link : Link) → Contains (links_in state fragment.assoc) link
          → IsRowOfLink schema fragment assoc table link row
          → map (λ cell. cell.1) (link_cells schema.model assoc fragment link) ≡ cells_of row (cols_of (fragment.first ++ fragment.second))
      joined_tuple row has link has_link of_link =
          link_tuple schema (well_written schema sound) state tables are fragment mapped table here assoc is_assoc link has_link row has (sym of_link)
