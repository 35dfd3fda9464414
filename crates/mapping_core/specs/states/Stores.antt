-- What storing a state by an accepted mapping answers, and the text of its tables.
-- Source: the update views of Melnik, Adya and Bernstein, SIGMOD 2007; RFC 8259.
use Rattle.std.specs.Prelude.{◌≡◌, ℕ, List, Result, Ok, Err, ⊤}
use Rattle.serde_json.specs.Data.{Data}
use Rattle.json_form.specs.Documents.{printed}
use Rattle.round_trip.specs.Words.{IsBreachOf, IsLegal, Schema, State, Tables, TablesAre}
use Rattle.table_files.specs.Tells.{IsTreeInKeyOrder}
use Rattle.mapping_core.specs.declared.storing.StoreFault.{StoreFault}
use Rattle.mapping_core.specs.declared.storing.StoreFault.TheVariants.{Breach, Memory}

-- Ok where the state is legal, with its tables; else the first breach of its rules. Memory says nothing.
abbrev pub Stores : Schema → State → Result Tables StoreFault → Type 0
Stores schema state (Ok tables) = IsLegal schema.model state × TablesAre schema state tables
Stores schema state (Err (Breach breach)) = IsBreachOf schema.model state breach
Stores schema state (Err Memory) = ⊤

-- the printed document of the state's tables, with the rows of each in the order of their primary keys
pub record IsTablesText (schema : Schema) (state : State) (text : List ℕ) : Type 0 where
  pub tables : Tables
  pub are : TablesAre schema state tables
  pub tree : Data
  pub order : IsTreeInKeyOrder schema.store tables tree
  pub is : text ≡ printed tree

-- the printed document of these tables, with the rows of each in the order of their primary keys
abbrev pub IsPrintedTables : Schema → Tables → List ℕ → Type 0
IsPrintedTables schema tables text = (tree : Data) × IsTreeInKeyOrder schema.store tables tree × (text ≡ printed tree)
