-- The values that the cells of a view's rows hold.
-- Source: the update views of Melnik, Adya and Bernstein, SIGMOD 2007.
use Rattle.std.specs.Prelude.{◌==◌, ℕ, List, map, find, slice_get, unwrap_or, Option, option_and_then, if◌then◌else◌}
use Rattle.round_trip.specs.Words.{AssocId, Value, Null, Entity, Hosted, Link}
use Rattle.table_files.specs.declared.tables.TableRow.{TableRow}
use Rattle.update_views.specs.declared.view_rows.view_cells.ViewCell.{ViewCell}
use Rattle.update_views.specs.declared.view_rows.view_cells.ViewCell.TheVariants as cell
use Rattle.update_views.specs.declared.view_rows.link_cells.LinkCell.{LinkCell}
use Rattle.update_views.specs.declared.view_rows.link_cells.LinkCell.TheVariants as link
use Rattle.update_views.specs.declared.view_rows.rows.ViewRow.{ViewRow}
use Rattle.update_views.specs.declared.view_rows.link_rows.LinkRow.{LinkRow}

-- a part of the key to which the first of the links leads that is of the association
abbrev pub part_held : List Hosted → AssocId → ℕ → Option Value
part_held links a part = option_and_then (λ hosted. slice_get hosted.partner part) (find (λ hosted. hosted.assoc.index == a.index) links)

-- what a cell holds for an entity with the links that it hosts
abbrev pub held_by_entity : Entity → List Hosted → ViewCell → Value
held_by_entity entity links (cell.Const value) = value
held_by_entity entity links (cell.Own place) = unwrap_or (slice_get entity.values place) Null
held_by_entity entity links (cell.Partner a part) = unwrap_or (part_held links a part) Null

-- the row of an entity
abbrev pub row_by_entity : Entity → List Hosted → ViewRow → TableRow
row_by_entity entity links row = record { table = row.table; row = record { cells = map (held_by_entity entity links) row.cells } }

-- what a cell holds for a link
abbrev pub held_by_link : Link → LinkCell → Value
held_by_link given (link.Const value) = value
held_by_link given (link.Part first part) = unwrap_or (slice_get (if first then given.first else given.second) part) Null

-- the row of a link
abbrev pub row_by_link : LinkRow → Link → TableRow
row_by_link row given = record { table = row.table; row = record { cells = map (held_by_link given) row.cells } }
