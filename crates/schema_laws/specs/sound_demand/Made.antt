-- What a state of a sound schema writes, its tables, and whether it clashes.
-- Source: MSL version 3; the update views of Melnik, Adya and Bernstein, SIGMOD 2007.
use Rattle.std.specs.Prelude.{Bool, List}
use Rattle.round_trip.specs.Words.{Schema, State, Tables, Writing}
use Rattle.schema_laws.specs.state_demand.MadeTables.{have_no_clash, tables_of}
use Rattle.schema_laws.specs.state_demand.Writings.{writings_of}
use Rattle.schema_laws.specs.sound_demand.Deriving.{derives}

-- what the state writes
abbrev pub writings_in : Schema → State → List Writing
writings_in schema state = writings_of (derives schema.model) schema state

-- the tables that this makes
abbrev pub tables_for : Schema → State → Tables
tables_for schema state = tables_of (derives schema.model) schema state

-- whether no cell is given two values
abbrev pub has_no_clash : Schema → State → Bool
has_no_clash schema state = have_no_clash schema.store (writings_in schema state)
