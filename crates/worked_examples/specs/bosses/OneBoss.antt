-- OneBoss: people whose boss stands in one column, where a person has at most one. A row comes of a person and of a link.
use Rattle.std.specs.Prelude.{ℕ, ℤ, pos, List, [], ◌∷◌, codes}
use Rattle.round_trip.specs.Words.{Value, Null, Whole, Text, Row, State, Tables, IsLegal, AreLegalTables, TablesAre, Satisfies}
use Rattle.edm_types.specs.declared.model.Mult.TheVariants.{ZeroOrOne}
use Rattle.worked_examples.specs.Ids.{row_of}
use Rattle.worked_examples.specs.people.People.{person}
use Rattle.worked_examples.specs.bosses.Bosses.{bossed, bossed_model, bossed_store, boss_of, with_bosses}

-- three people, of whom the first is the boss of the others
abbrev pub crew : State
crew = with_bosses (person (pos 1) (Text (codes "a")) ∷ person (pos 2) (Text (codes "b")) ∷ person (pos 3) (Text (codes "c")) ∷ [])
    (boss_of (pos 2) (pos 1) ∷ boss_of (pos 3) (pos 1) ∷ [])

abbrev pub crew_row : ℤ → List ℕ → Value → Row
crew_row id name boss = row_of (Whole id ∷ Text name ∷ boss ∷ [])

-- a row for each person, which holds the boss too
abbrev pub crew_tables : Tables
crew_tables = (crew_row (pos 1) (codes "a") Null ∷ crew_row (pos 2) (codes "b") (Whole (pos 1)) ∷ crew_row (pos 3) (codes "c") (Whole (pos 1)) ∷ []) ∷ []

abbrev pub CrewIsLegal : Type 0
CrewIsLegal = IsLegal (bossed_model ZeroOrOne) crew

abbrev pub CrewIsStored : Type 0
CrewIsStored = TablesAre (bossed ZeroOrOne) crew crew_tables

abbrev pub CrewTablesAreLegal : Type 0
CrewTablesAreLegal = AreLegalTables bossed_store crew_tables

abbrev pub CrewTablesSatisfy : Type 0
CrewTablesSatisfy = Satisfies (bossed ZeroOrOne) crew crew_tables
