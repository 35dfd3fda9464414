-- The rows that views give for the entities and the links of a state.
-- Source: the update views of Melnik, Adya and Bernstein, SIGMOD 2007.
use Rattle.std.specs.Prelude.{◌≡◌, ◌==◌, List, [], ◌∷◌, map, filter, unwrap_or, slice_get, Option}
use Rattle.std.specs.List.{flat_map}
use Rattle.std.specs.Option.{option_map_or}
use Rattle.round_trip.specs.Words.{AreTables, SetId, AssocId, TableId, EntityModel, Entity, Hosted, Link, Row, State, StoreModel, Tables, key_of, rows_in}
use Rattle.table_files.specs.declared.tables.TableRow.{TableRow}
use Rattle.table_owners.specs.declared.places.LinkPlace.{LinkPlace}
use Rattle.table_owners.specs.declared.places.LinkPlace.TheVariants as place
use Rattle.cells.specs.declared.cells.Cells.{Cells}
use Rattle.cells.specs.HostedLinks.{hosted_links}
use Rattle.entity_changes.specs.declared.touched.Touched.{Touched}
use Rattle.delta_plan.specs.Units.{Unit, is_touched, of_entity, of_link, units_of}

-- what views give: the rows of an entity with the links that it hosts, and the row of each link of an association set that has rows of its own
pub record Giving : Type 0 where
  pub local : SetId → Entity → List Hosted → List TableRow
  pub joined : AssocId → Option (Link → TableRow)

abbrev pub giving : (SetId → Entity → List Hosted → List TableRow) → (AssocId → Option (Link → TableRow)) → Giving
giving local joined = record { local = local; joined = joined }

-- the row of a link by where the links of its association set stand: only a joined one has a row of its own
abbrev pub link_rows : LinkPlace → Option (Link → TableRow) → Link → List TableRow
link_rows (place.Joined number) joined link = option_map_or (λ of. of link ∷ []) joined []
link_rows _ joined link = []

module _ (gives : Giving) (model : EntityModel) (cells : Cells) (state : State) where
  -- the rows of an entity of the state with the links that it hosts there, or of a link
  abbrev pub unit_rows : Unit → List TableRow
  unit_rows (of_entity s entity) = gives.local s entity (hosted_links model cells state s (key_of model entity))
  unit_rows (of_link a link) = link_rows (unwrap_or (slice_get cells.places a.index) place.Unmapped) (gives.joined a) link

  -- the rows of the state, and those of what is touched in it
  abbrev pub rows_of : List TableRow
  rows_of = flat_map unit_rows (units_of state)

  abbrev pub touched_rows : Touched → List TableRow
  touched_rows touched = flat_map unit_rows (filter (is_touched model touched) (units_of state))

-- the rows that name a table
abbrev pub named : TableId → List TableRow → List Row
named t rows = map (λ one. one.row) (filter (λ one. one.table.index == t.index) rows)

-- the rows as tables: each names a table of the store and has a cell for each of its columns
pub record AreTablesOf (store : StoreModel) (rows : List TableRow) (tables : Tables) : Type 0 where
  pub shape : AreTables store tables
  pub each : (t : TableId) → rows_in tables t ≡ named t rows
