-- What a run has to answer where nothing stands in its way: the words are a command, its input files are read, their documents are accepted, and their data are legal.
-- Source: this project's; the round-trip criterion of Melnik, Adya and Bernstein, SIGMOD 2007.
use Rattle.std.specs.Prelude.{◌≡◌, ℕ, List, ◌++◌, Option, Some, option_map, ⊤}
use Rattle.emc_base.specs.Faults.{RoseOrStands}
use Rattle.emc_base.specs.Lists.{At}
use Rattle.emc_files.specs.Files.{FileMap}
use Rattle.round_trip.specs.Words.{EntityModel, IsSameState, RoundTrips}
use Rattle.mapping_core.specs.Words.{AreLegalTables, AreSaved, CanBeSaved, Change, HasStateTables, HoldsChanges, HoldsState, HoldsTables, IsLegal, IsStateText, IsTablesText, IsViewsText, Means, PassesNoLimit, Schema, State, Tables}
use Rattle.mapping_core.specs.declared.saving.saved.Saved.{Saved}
use Rattle.texts.specs.command_texts.Texts.{accepted_text}
use Rattle.mapping_run.specs.declared.answers.answer.Answer.{Answer}
use Rattle.mapping_run.specs.declared.answers.command.Command.{Command}
use Rattle.mapping_run.specs.declared.answers.command.Command.TheVariants.{Check, Views, Store, Load, Save}
use Rattle.mapping_run.specs.declared.answers.status.Status.{Status}
use Rattle.mapping_run.specs.declared.answers.status.Status.TheVariants.{Done, Memory}
use Rattle.mapping_run.specs.Commands.{command_of, inputs_of}
use Rattle.mapping_run.specs.Inputs.{AreInputs}
use Rattle.mapping_run.specs.Runs.{Leaves}
use Rattle.mapping_run.specs.World.{World}
use Rattle.mapping_run.specs.answers.Gives.{HasDocuments}
use Rattle.mapping_run.specs.answers.Says.{Says, SaysSome}
use Rattle.mapping_run.specs.answers.Saving.{SaysSaved}

-- an entity document that holds a legal state
pub record HoldsLegalState (model : EntityModel) (contents : List (List ℕ)) : Type 0 where
  pub document : List ℕ
  pub is_document : At contents 3 document
  pub state : State
  pub held : HoldsState model document state
  pub legal : IsLegal model state

-- a table document that holds legal tables, and a legal state whose tables they are, free cells aside
pub record HoldsStateTables (schema : Schema) (contents : List (List ℕ)) : Type 0 where
  pub document : List ℕ
  pub is_document : At contents 3 document
  pub tables : Tables
  pub held : HoldsTables schema.store document tables
  pub legal : AreLegalTables schema.store tables
  pub state : State
  pub is_legal : IsLegal schema.model state
  pub has : HasStateTables schema state tables

-- a table document that holds legal tables of a legal state, free cells aside, and a change document that holds changes which this state accepts: the state afterwards is
-- legal, so are its tables with the free cells kept, and they can be reached in an order that keeps all keys
pub record HoldsAcceptedChanges (schema : Schema) (contents : List (List ℕ)) : Type 0 where
  pub document : List ℕ
  pub is_document : At contents 3 document
  pub tables : Tables
  pub held : HoldsTables schema.store document tables
  pub list : List ℕ
  pub is_list : At contents 4 list
  pub changes : List Change
  pub told : HoldsChanges schema.model list changes
  pub state : State
  pub can : CanBeSaved schema tables state changes

-- the data of a command are legal; some commands have none
abbrev pub HasLegalData : Command → List (List ℕ) → Schema → Type 0
HasLegalData Check contents schema = ⊤
HasLegalData Views contents schema = ⊤
HasLegalData Store contents schema = HoldsLegalState schema.model contents
HasLegalData Load contents schema = HoldsStateTables schema contents
HasLegalData Save contents schema = HoldsAcceptedChanges schema contents

-- the answer that is to be given: that the mapping is accepted, its cases, the tables of the state, the state that the tables tell, or the row changes with the tables
-- afterwards, which are saved
abbrev pub IsAnswerOf : (command : Command) (contents : List (List ℕ)) (schema : Schema) → HasLegalData command contents schema → Answer → Type 0
IsAnswerOf Check contents schema held_data answer = Says accepted_text Done answer
IsAnswerOf Views contents schema held_data answer = SaysSome (IsViewsText schema) Done answer
IsAnswerOf Store contents schema held_data answer = SaysSome (IsTablesText schema held_data.state) Done answer
IsAnswerOf Load contents schema held_data answer = (told : State) × IsSameState held_data.state told × SaysSome (IsStateText schema told) Done answer
IsAnswerOf Save contents schema held_data answer = (saved : Saved) × AreSaved schema held_data.tables held_data.changes saved × SaysSaved schema saved answer

-- The words are a command, each of its input files is there and not too large, the documents of the mapping break no rule, what they mean passes no limit and
-- round-trips, and the data are legal.
pub record HasGoodInput (words : List (List ℕ)) (held : Option FileMap) : Type 0 where
  pub command : Command
  pub is_command : command_of words ≡ Some command
  pub files : FileMap
  pub told : held ≡ Some files
  pub contents : List (List ℕ)
  pub are_inputs : AreInputs held (inputs_of command words) contents
  pub schema : Schema
  pub documents : HasDocuments contents (λ csdl ssdl msl. Means csdl ssdl msl schema)
  pub within : PassesNoLimit schema
  pub round_trips : RoundTrips schema
  pub held_data : HasLegalData command contents schema

-- no read and no write failed, by the counts of faults: neither rose, and neither stands at its last value
pub record IsQuiet (before after : World) : Type 0 where
  pub files : ¬ RoseOrStands before.file_faults after.file_faults
  pub sink : ¬ RoseOrStands before.sink_faults after.sink_faults

-- the answer's whole text was written, and the files hold what it leaves
pub record Prints (words : List (List ℕ)) (before after : World) (good : HasGoodInput words before.held) : Type 0 where
  pub answer : Answer
  pub is : IsAnswerOf good.command good.contents good.schema good.held_data answer
  pub written : after.written ≡ option_map (λ bytes. bytes ++ answer.text) before.written
  pub leaves : Leaves words answer before.held after.held

-- that is what the status says; or memory ran out
abbrev pub Succeeds : (words : List (List ℕ)) (before after : World) → HasGoodInput words before.held → Status → Type 0
Succeeds words before after good Done = Prints words before after good
Succeeds words before after good Memory = ⊤
Succeeds words before after good status = ⊥

-- a run on good input, in which no read and no write failed, succeeds
abbrev pub IsComplete : List (List ℕ) → World → World → Status → Type 0
IsComplete words before after status = (good : HasGoodInput words before.held) → IsQuiet before after → Succeeds words before after good status
