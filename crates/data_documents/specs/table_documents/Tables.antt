-- The tables that a document without faults of shape holds.
-- Source: SSDL version 3, EntitySet, EntityType and Property; RFC 8259.
use Rattle.std.specs.Prelude.{List, map, option_and_then, unwrap_or}
use Rattle.serde_json.specs.Data.{Data}
use Rattle.serde_json.specs.Find.{get}
use Rattle.json_form.specs.from_nodes.Reading.{items_at}
use Rattle.round_trip.specs.Words.{StoreModel, Table, Row, Value, Null}
use Rattle.edm_types.specs.Rows.{Tables}
use Rattle.edm_types.specs.declared.store.Column.{Column}
use Rattle.data_documents.specs.shape_faults.Values.{value_in}

-- the value of a row's member for a column; null where it gives none
abbrev pub cell_in : Data → Column → Value
cell_in d column = unwrap_or (option_and_then (value_in column.kind) (get column.name d)) Null

-- a row: a cell for each column
abbrev pub row_in : List Column → Data → Row
row_in cols d = record { cells = map (cell_in d) cols }

-- the rows of a table: the items of its member, and none where it has no member
abbrev pub rows_of_table : Data → Table → List Row
rows_of_table d table = map (row_in table.cols) (items_at table.name d)

-- the rows of each table
abbrev pub tables_in : StoreModel → Data → Tables
tables_in store d = map (rows_of_table d) store.tables
