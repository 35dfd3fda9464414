-- Tables to which rows are added one after another.
-- Source: this project's.
use Rattle.std.specs.Prelude.{List, [], ◌∷◌, map}
use Rattle.round_trip.specs.Words.{EntityModel, Entity, Tables, Value, key_of}
use Rattle.table_files.specs.declared.tables.TableRow.{TableRow}
use Rattle.table_files.specs.Lists.{with_row}

-- each row stands behind those of its table
abbrev pub with_rows : Tables → List TableRow → Tables
with_rows tables [] = tables
with_rows tables (placed ∷ rest) = with_rows (with_row tables placed.table placed.row) rest

-- the keys of the entities of each set
abbrev pub keys_in_sets : EntityModel → List (List Entity) → List (List (List Value))
keys_in_sets model entities = map (λ of_set. map (key_of model) of_set) entities
