-- The rows of all entities and links of a state, gathered into tables.
-- Source: the update views of Melnik, Adya and Bernstein, SIGMOD 2007.
use Rattle.std.specs.Prelude.{◌==◌, ◌++◌, ℕ, List, [], map, filter, flat_map, Option}
use Rattle.std.specs.List.{enumerate_from}
use Rattle.std.specs.Option.{option_map_or}
use Rattle.round_trip.specs.Words.{SetId, AssocId, Value, EntityModel, StoreModel, Entity, Hosted, Link, State, Tables, key_of}
use Rattle.table_files.specs.declared.tables.TableRow.{TableRow}

-- local: the rows of an entity of a set with the links that it hosts; joined: the row of a link of an association whose links have rows of their own;
-- hosted: the links that the entity of a key hosts
module _ (model : EntityModel) (local : SetId → Entity → List Hosted → List TableRow) (joined : AssocId → Option (Link → TableRow))
    (hosted : SetId → List Value → List Hosted) where
  -- the rows of the entities of a numbered set
  abbrev pub rows_of_set : ℕ × List Entity → List TableRow
  rows_of_set entry =
      flat_map (λ entity. local (record { index = entry.0 }) entity (hosted (record { index = entry.0 }) (key_of model entity))) entry.1

  -- those of the links of a numbered association
  abbrev pub rows_of_links : ℕ × List Link → List TableRow
  rows_of_links entry = option_map_or (λ of_link. map of_link entry.1) (joined (record { index = entry.0 })) []

  -- the rows of all entities, set after set, and then of all links
  abbrev pub rows_of : State → List TableRow
  rows_of state = flat_map rows_of_set (enumerate_from 0 state.entities) ++ flat_map rows_of_links (enumerate_from 0 state.links)

-- the rows of each table of the store, in their order
abbrev pub gathered : StoreModel → List TableRow → Tables
gathered store rows = map (λ entry. map (λ placed. placed.row) (filter (λ placed. placed.table.index == entry.0) rows)) (enumerate_from 0 store.tables)
