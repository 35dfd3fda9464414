-- Where the values of an entity are read among the rows at its key.
-- Source: the query views of Melnik, Adya and Bernstein, SIGMOD 2007.
use Rattle.std.specs.Prelude.{◌≡◌, List, map, slice_get, All}
use Rattle.std.specs.Option.{option_map_or}
use Rattle.round_trip.specs.Words.{TypeId, TableId, Value, Null, Entity, Row, cell_of}
use Rattle.query_cases.specs.declared.case_reading.reading.CellPlace.{CellPlace}
use Rattle.query_cases.specs.declared.case_reading.reading.Source.{Source}
use Rattle.query_cases.specs.declared.case_reading.reading.Source.TheVariants as source
use Rattle.query_cases.specs.declared.case_reading.reading.Reading.{Reading}

-- the cell at a place; null where there is none
abbrev pub cell_at : List (TableId × Row) → CellPlace → Value
cell_at rows place = option_map_or (λ placed. cell_of placed.1 (record { index = place.col })) (slice_get rows place.row) Null

-- the value that is read
abbrev pub source_value : List (TableId × Row) → Source → Value
source_value rows (source.Is value) = value
source_value rows (source.Cell place) = cell_at rows place

-- the values of all properties, in their order
abbrev pub read_values : Reading → List (TableId × Row) → List Value
read_values reading rows = map (source_value rows) reading.values

-- the entity of this type with these values
abbrev pub read_entity : Reading → TypeId → List (TableId × Row) → Entity
read_entity reading ty rows = record { ty = ty; values = read_values reading rows }

-- cells that show one property hold one value: each later one what the first does
abbrev pub AgreeTwins : Reading → List (TableId × Row) → Type 0
AgreeTwins reading rows = All (λ twins. cell_at rows twins.first ≡ cell_at rows twins.later) reading.twins
