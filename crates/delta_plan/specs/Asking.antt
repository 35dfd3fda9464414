-- The rows that views give for what is marked.
-- Source: this project's.
use Rattle.std.specs.Prelude.{List, Option, unwrap_or, slice_get}
use Rattle.round_trip.specs.Words.{SetId, AssocId, Value, Entity, Hosted, Link}
use Rattle.table_files.specs.declared.tables.TableRow.{TableRow}
use Rattle.table_owners.specs.declared.places.LinkPlace.TheVariants as place
use Rattle.cells.specs.declared.cells.Cells.{Cells}
use Rattle.delta_plan.specs.declared.marked.MarkedEntity.{MarkedEntity}
use Rattle.delta_plan.specs.declared.marked.MarkedLink.{MarkedLink}
use Rattle.delta_plan.specs.RowsOf.{link_rows}

-- of an entity, with the links that the entity of its key hosts
abbrev pub local_rows : (SetId → Entity → List Hosted → List TableRow) → (SetId → List Value → List Hosted) → MarkedEntity → List TableRow
local_rows local hosted one = local one.set one.entity.now (hosted one.set one.key)

-- of a link, by where the links of its association set stand
abbrev pub rows_by_place : (AssocId → Option (Link → TableRow)) → Cells → MarkedLink → List TableRow
rows_by_place joined cells one = link_rows (unwrap_or (slice_get cells.places one.assoc.index) place.Unmapped) (joined one.assoc) one.link.now
