-- What is given on tables by an accepted mapping: the state that they tell, or why they tell none.
use Rattle.std.specs.Prelude.{◌≡◌, ◌⊎◌, ℕ, List, Err}
use Rattle.mapping_core.specs.Words.{AreLegalTables, Breach, HoldsNoTables, HoldsTables, IsBreachOfTables, IsLoaded, IsStateText, LoadsLegal, Schema, State, Tables}
use Rattle.mapping_core.specs.declared.loading.LoadFault.{LoadFault}
use Rattle.mapping_core.specs.declared.loading.LoadFault.TheVariants as load
use Rattle.texts.specs.command_texts.Texts.{illegal_text, IsDiffersText, no_case_text, table_breach_text, table_shape_text}
use Rattle.mapping_run.specs.declared.answers.answer.Answer.{Answer}
use Rattle.mapping_run.specs.declared.answers.status.Status.TheVariants.{Done, DocumentRefused}
use Rattle.mapping_run.specs.answers.Says.{Says, SaysSome}

-- the text tells why legal tables are those of no legal state
abbrev pub TellsNoState : Schema → LoadFault → List ℕ → Type 0
TellsNoState schema (load.NoCase place) told = told ≡ no_case_text place
TellsNoState schema (load.Illegal breach) told = told ≡ illegal_text breach
TellsNoState schema (load.Differs place held demanded) told = IsDiffersText schema.store place held demanded told
TellsNoState schema (load.Breach breach) told = ⊥
TellsNoState schema load.Memory told = ⊥

-- the tables are refused, for this reason
abbrev pub RefusesTables : Schema → LoadFault → Answer → Type 0
RefusesTables schema (load.Breach breach) answer = Says (table_breach_text breach) DocumentRefused answer
RefusesTables schema load.Memory answer = ⊥
RefusesTables schema fault answer = SaysSome (TellsNoState schema fault) DocumentRefused answer

-- what is given on tables: the first breach of their rules; or, where they are legal, why no legal state has them, or the state that they tell
abbrev pub GivesState : Schema → Tables → Answer → Type 0
GivesState schema tables answer =
    ((breach : Breach) × IsBreachOfTables schema.store tables breach × Says (table_breach_text breach) DocumentRefused answer)
    ⊎ (AreLegalTables schema.store tables
    × (((fault : LoadFault) × LoadsLegal schema tables (Err fault) × SaysSome (TellsNoState schema fault) DocumentRefused answer)
    ⊎ ((state : State) × IsLoaded schema tables state × SaysSome (IsStateText schema state) Done answer)))

-- what is given on a table document: the first place where it is of another shape; or what is given on the tables that it tells
abbrev pub GivesLoaded : List ℕ → Schema → Answer → Type 0
GivesLoaded document schema answer =
    ((pointer : List ℕ) × HoldsNoTables schema.store document pointer × Says (table_shape_text pointer) DocumentRefused answer)
    ⊎ ((tables : Tables) × HoldsTables schema.store document tables × GivesState schema tables answer)
