-- The rows of all entities and links of a state, added to empty tables, are its tables.
use Rattle.std.proofs.Common.{◌≡◌, ◌<◌, ◌∙◌, refl, sym, subst, List, [], map, flat_map, length, All, Contains, Option, Some, None, option_map}
use Rattle.std.specs.List.{enumerate_from}
use Rattle.std.specs.Option.{option_map_or}
use Rattle.std.proofs.lemmas.List.Elements.{All-append, All-contains}
use Rattle.emc_base.proofs.Lists.{all_from_members}
use Rattle.emc_base.proofs.Numbered.{map_contains}
use Rattle.round_trip.specs.Words.{AssocId, Entity, IsLegal, Link, SetId, State, Tables, TablesAre, key_of}
use Rattle.round_trip.specs.TablesAre.{HasNoClash}
use Rattle.table_files.specs.declared.tables.TableRow.{TableRow}
use Rattle.cells.specs.declared.parts.Parts.{Parts}
use Rattle.cells.specs.Parts.{AreParts, schema_in}
use Rattle.cells.specs.declared.host_links.links.HostLinks.{HostLinks}
use Rattle.cells.specs.host_links.Grouped.{GroupsLinks, links_in}
use Rattle.schema_laws.proofs.state_demand.lists.Lists.{member_of_flat_map, none_in_nil}
use Rattle.regions.specs.region_laws.IsBasis.{AreHostedLinks}
use Rattle.regions.specs.region_laws.Partners.{HasFewPartners}
use Rattle.region_states.specs.region_basis.BasisOf.{basis_of}
use Rattle.region_states.proofs.region_basis.Bases.{basis_is}
use Rattle.region_states.proofs.region_basis.Links.{links_of_basis}
use Rattle.case_laws.specs.filled_rows.Gathered.{gathered, rows_of, rows_of_links, rows_of_set}
use Rattle.case_laws.proofs.filled_rows.Tables.{tables_are}
use Rattle.update_views.specs.view_rows.Held.{row_by_link}
use Rattle.update_views.specs.declared.view_rows.link_rows.LinkRow.{LinkRow}
use Rattle.update_views.specs.declared.views.UpdateViews.{UpdateViews}
use Rattle.update_views.specs.Placed.{with_rows}
use Rattle.update_views.specs.Views.{AreViewsOf, joined_at, joined_row, local_rows}
use Rattle.update_views.proofs.Added.{with_more}
use Rattle.update_views.proofs.Gathering.{all_gathered}

module _ (parts : Parts) (are : AreParts parts) (views : UpdateViews) (of : AreViewsOf (basis_of parts) views) (hosts : HostLinks) (state : State) where
  abbrev IsWithin : TableRow → Type 0
  IsWithin placed = placed.table.index < length parts.store.now.tables

  abbrev set_rows : List TableRow
  set_rows = flat_map (rows_of_set parts.model.now (local_rows views) (joined_row views) (links_in hosts)) (enumerate_from 0 state.entities)

  abbrev link_rows : List TableRow
  link_rows = flat_map (rows_of_links parts.model.now (local_rows views) (joined_row views) (links_in hosts)) (enumerate_from 0 state.links)

  -- the rows of entities are of tables of the store
  set_within : All IsWithin set_rows
  set_within = all_from_members IsWithin set_rows (λ placed has.
      let found = member_of_flat_map (rows_of_set parts.model.now (local_rows views) (joined_row views) (links_in hosts)) (enumerate_from 0 state.entities) placed has in
      let s : SetId = record { index = found.0.0 } in
      let of_entity : Entity → List TableRow = λ entity. local_rows views s entity (links_in hosts s (key_of parts.model.now entity)) in
      let inner = member_of_flat_map of_entity found.0.1 placed found.2 in
      All-contains IsWithin (of_entity inner.0) placed (of.tables s inner.0 (links_in hosts s (key_of parts.model.now inner.0))) inner.2)

  -- and those of links
  link_by : (a : AssocId) (links : List Link) (placed : TableRow) (kept : Option LinkRow) → joined_at views a ≡ kept
      → Contains (option_map_or (λ of_link. map of_link links) (option_map row_by_link kept) []) placed → IsWithin placed
  link_by a links placed None none has = absurd (none_in_nil placed has)
  link_by a links placed (Some row) is has =
      let found = map_contains (row_by_link row) links placed has in subst IsWithin found.2 (of.link_tables a row is)

  link_within : All IsWithin link_rows
  link_within = all_from_members IsWithin link_rows (λ placed has.
      let found = member_of_flat_map (rows_of_links parts.model.now (local_rows views) (joined_row views) (links_in hosts)) (enumerate_from 0 state.links) placed has in
      let a : AssocId = record { index = found.0.0 } in link_by a found.0.1 placed (joined_at views a) refl found.2)

  module _ (few : (s : SetId) → HasFewPartners (basis_of parts) s) (grouped : GroupsLinks parts.model.now parts.cells.now state hosts)
      (legal : IsLegal parts.model.now state) (clear : HasNoClash (schema_in parts) state) where
    -- the links that are kept of an entity are those that it hosts
    hosted_are : (s : SetId) (entity : Entity) → AreHostedLinks (basis_of parts) state s entity (links_in hosts s (key_of parts.model.now entity))
    hosted_are s entity = let key = key_of parts.model.now entity in
        subst (AreHostedLinks (basis_of parts) state s entity) (sym (grouped s key)) (links_of_basis parts are state s entity)

    pub whole : (tables : Tables) → tables ≡ with_rows (with_rows (map (λ _. []) parts.store.now.tables) set_rows) link_rows → TablesAre (schema_in parts) state tables
    whole tables is =
        let rows = rows_of parts.model.now (local_rows views) (joined_row views) (links_in hosts) state in
        let all : tables ≡ gathered parts.store.now rows = is ∙ sym (with_more (map (λ _. []) parts.store.now.tables) set_rows link_rows)
        ∙ all_gathered parts.store.now rows (All-append IsWithin set_rows link_rows set_within link_within) in
        subst (TablesAre (schema_in parts) state) (sym all)
        (tables_are (basis_of parts) (local_rows views) (joined_row views) (links_in hosts) state (record {
          is = basis_is parts are;
          fills = of.fills;
          few = few;
          are_hosted = hosted_are;
          legal = legal;
          no_clash = clear;
        }))
