-- Tables as a JSON tree: the lists as they stand.
-- Source: this project's table documents.
use Rattle.std.specs.Prelude.{ℕ, List, map}
use Rattle.std.specs.List.{enumerate_from}
use Rattle.serde_json.specs.Data.{Data}
use Rattle.json_form.specs.Trees.{value_tree, array_of, object_of}
use Rattle.round_trip.specs.Words.{StoreModel, Table, Column, Row, Tables, rows_in, cell_of}

-- a column's name and a row's cell
abbrev pub cell_member : Row → ℕ × Column → List ℕ × Data
cell_member row entry = (entry.1.name, value_tree (cell_of row (record { index = entry.0 })))

-- a row: its cells by the names of their columns
abbrev pub row_tree : Table → Row → Data
row_tree table row = object_of (map (cell_member row) (enumerate_from 0 table.cols))

-- a table's name and rows
abbrev pub table_member : Tables → ℕ × Table → List ℕ × Data
table_member tables entry = (entry.1.name, array_of (map (row_tree entry.1) (rows_in tables (record { index = entry.0 }))))

-- a member for each table
abbrev pub tables_tree : StoreModel → Tables → Data
tables_tree store tables = object_of (map (table_member tables) (enumerate_from 0 store.tables))
