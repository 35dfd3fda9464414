-- The rows that update views tell, by what they keep.
-- Source: the update views of Melnik, Adya and Bernstein, SIGMOD 2007.
use Rattle.std.specs.Prelude.{◌<◌, List, [], map, length, slice_get, unwrap_or, ◌≡◌, All, Option, Some, option_and_then, option_map}
use Rattle.std.specs.Option.{option_map_or}
use Rattle.round_trip.specs.Words.{SetId, AssocId, Entity, Hosted, Link}
use Rattle.table_files.specs.declared.tables.TableRow.{TableRow}
use Rattle.regions.specs.Basis.{Basis}
use Rattle.update_views.specs.region_table.Numbers.{place_in}
use Rattle.case_laws.specs.filled_rows.Filled.{FillsRows}
use Rattle.update_views.specs.view_rows.Held.{row_by_entity, row_by_link}
use Rattle.update_views.specs.declared.view_rows.rows.ViewRow.{ViewRow}
use Rattle.update_views.specs.declared.view_rows.link_rows.LinkRow.{LinkRow}
use Rattle.update_views.specs.declared.views.SetView.{SetView}
use Rattle.update_views.specs.declared.views.UpdateViews.{UpdateViews}

-- the rows of the region that holds the entity with the links that it hosts; none where there is no such region
abbrev pub rows_in_set : SetView → Entity → List Hosted → List ViewRow
rows_in_set view entity links = option_map_or (λ place. unwrap_or (slice_get view.rows place) []) (place_in view.regions entity links) []

abbrev pub rows_at : UpdateViews → SetId → Entity → List Hosted → List ViewRow
rows_at views s entity links = option_map_or (λ view. rows_in_set view entity links) (slice_get views.sets s.index) []

-- the same with the entity's values and the keys of its partners
abbrev pub local_rows : UpdateViews → SetId → Entity → List Hosted → List TableRow
local_rows views s entity links = map (row_by_entity entity links) (rows_at views s entity links)

-- the row of the links of an association, where they have rows of their own
abbrev pub joined_at : UpdateViews → AssocId → Option LinkRow
joined_at views a = option_and_then (λ row. row) (slice_get views.joined a.index)

-- the same with the keys of a link
abbrev pub joined_row : UpdateViews → AssocId → Option (Link → TableRow)
joined_row views a = option_map row_by_link (joined_at views a)

-- The views are those of a mapping: entities and links have the rows that their patterns tell, and all are of tables of the store.
pub record AreViewsOf (basis : Basis) (views : UpdateViews) : Type 0 where
  pub fills : FillsRows basis (local_rows views) (joined_row views)
  pub tables : (s : SetId) (entity : Entity) (links : List Hosted) → All (λ placed. placed.table.index < length basis.schema.store.tables) (local_rows views s entity links)
  pub link_tables : (a : AssocId) (row : LinkRow) → joined_at views a ≡ Some row → row.table.index < length basis.schema.store.tables
