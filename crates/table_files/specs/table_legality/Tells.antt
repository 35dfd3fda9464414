-- What is told of tables.
-- Source: the rules of `LegalTables` in `round_trip`.
use Rattle.std.specs.Prelude.{◌≢◌, ℕ, List, AllPairs, Option, Some, None}
use Rattle.round_trip.specs.Words.{StoreModel, Tables, Table, Row, Breach, At, AreLegalRows, AreLegalTables, row_key, rows_in}
use Rattle.round_trip.specs.legality.TableBreaches.{IsBreachOfTables, BreaksTableRule}
use Rattle.entity_state.specs.declared.breach_order.found.Found.{Found}

-- that they are legal, or the first breach
abbrev pub TellsTables : StoreModel → Tables → Option Breach → Type 0
TellsTables store tables None = AreLegalTables store tables
TellsTables store tables (Some breach) = IsBreachOfTables store tables breach

-- each table that is declared has legal rows
abbrev pub HaveLegalRows : List Table → Tables → Type 0
HaveLegalRows declared tables = (t : ℕ) (table : Table) → At declared t table → AreLegalRows table (rows_in tables (record { index = t }))

-- no two rows have one primary key
abbrev pub RowsApart : Table → List Row → Type 0
RowsApart table rows = AllPairs (λ row other. row_key table row ≢ row_key table other) rows

-- what was found is a breach of the tables
abbrev pub BreaksTables : StoreModel → Tables → Found → Type 0
BreaksTables store tables found = BreaksTableRule store tables found.rule found.spot found.place
