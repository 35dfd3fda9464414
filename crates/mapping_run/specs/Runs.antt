-- The promise of the program: what it printed, how it ended, and what it left, in every case.
use Rattle.std.specs.Prelude.{◌≡◌, ◌≢◌, ◌⊎◌, ℕ, List, [], ◌++◌, take, Option, Some, None, MatchOption, option_map, Ok, Err, codes}
use Rattle.emc_base.specs.Faults.{RoseOrStands}
use Rattle.emc_files.specs.Files.{FileMap, Replaces}
use Rattle.emc_files.specs.declared.files.ReplaceFault.TheVariants.{Failed}
use Rattle.texts.specs.command_texts.Texts.{file_text}
use Rattle.mapping_run.specs.declared.answers.answer.Answer.{Answer}
use Rattle.mapping_run.specs.declared.answers.command.Command.{Command}
use Rattle.mapping_run.specs.declared.answers.status.Status.{Status}
use Rattle.mapping_run.specs.declared.answers.status.Status.TheVariants.{Done, MappingRefused, DocumentRefused, Usage, FileFault, SinkFault, Memory}
use Rattle.mapping_run.specs.Commands.{command_of, inputs_of, output_of}
use Rattle.mapping_run.specs.Inputs.{FailsToRead}
use Rattle.mapping_run.specs.answers.Says.{Says, SaysSome}
use Rattle.mapping_run.specs.Gives.{Gives, GivesInputs}
use Rattle.mapping_run.specs.World.{World}

-- what an answer leaves in the files: at this name stands what it saves, and every other name is as before; where there is no name, or nothing is saved, all is as before
abbrev pub LeavesAt : Option (List ℕ) → Answer → Option FileMap → Option FileMap → Type 0
LeavesAt None answer held left = left ≡ held
LeavesAt (Some name) answer held left = MatchOption answer.saved (left ≡ held) (λ text. Replaces held left name text (Ok tt))

-- the same by words: the name is that of the file which their command writes
abbrev pub Leaves : List (List ℕ) → Answer → Option FileMap → Option FileMap → Type 0
Leaves words answer held left = MatchOption (command_of words) (left ≡ held) (λ command. LeavesAt (output_of command words) answer held left)

-- the files are as they were, or as what the words give leaves them
abbrev pub LeavesGiven : List (List ℕ) → Option FileMap → Option FileMap → Type 0
LeavesGiven words held left = (left ≡ held) ⊎ ((answer : Answer) × Gives words held answer × Leaves words answer held left)

-- may_fail: of which names a read or a replace may fail; held and left: what the files hold before and after
module _ (may_fail : List ℕ → Type 0) (words : List (List ℕ)) (held left : Option FileMap) where
  -- an input file of the command could not be read, the text says so, and the files are as they were
  abbrev pub FailsToGive : Command → Answer → Type 0
  FailsToGive command answer = SaysSome (FailsToRead may_fail held (inputs_of command words)) FileFault answer × (left ≡ held)

  -- what the command gives is to be saved in a file that could not be replaced, and the text says so; the file is as it was, or holds what was to be saved
  pub record FailsToSave (command : Command) (answer : Answer) : Type 0 where
    pub given : Answer
    pub gives : GivesInputs held command (inputs_of command words) given
    pub name : List ℕ
    pub named : output_of command words ≡ Some name
    pub text : List ℕ
    pub saves : given.saved ≡ Some text
    pub allowed : may_fail name
    pub says : Says (file_text (codes "failed") name) FileFault answer
    pub leaves : Replaces held left name text (Err Failed)

  -- the words are a command, and a call on one of its files failed
  abbrev pub Breaks : Answer → Type 0
  Breaks answer = MatchOption (command_of words) ⊥ (λ command. FailsToGive command answer ⊎ FailsToSave command answer)

-- No call on the files failed, the answer is what the words give, and the files are as it leaves them; or one did, and it says so. The two numbers are the counts of the
-- files' faults before and after.
abbrev pub Ends : (List ℕ → Type 0) → List (List ℕ) → Option FileMap → ℕ → ℕ → Option FileMap → Answer → Type 0
Ends may_fail words held before now left answer =
    ((now ≡ before) × Gives words held answer × Leaves words answer held left)
    ⊎ (RoseOrStands before now × Breaks may_fail words held left answer)

module _ (may_fail : List ℕ → Type 0) where
  -- the whole text of an answer with this status was written, and the sink had no fault
  pub record Finishes (words : List (List ℕ)) (before after : World) (status : Status) : Type 0 where
    pub answer : Answer
    pub status_is : answer.status ≡ status
    pub ends : Ends may_fail words before.held before.file_faults after.file_faults after.held answer
    pub written : after.written ≡ option_map (λ bytes. bytes ++ answer.text) before.written
    pub quiet : after.sink_faults ≡ before.sink_faults

  -- the sink failed, after the first so many bytes of the text of an answer, which isn't empty
  pub record BreaksOff (words : List (List ℕ)) (before after : World) : Type 0 where
    pub answer : Answer
    pub count : ℕ
    pub not_empty : answer.text ≢ []
    pub ends : Ends may_fail words before.held before.file_faults after.file_faults after.held answer
    pub written : after.written ≡ option_map (λ bytes. bytes ++ take count answer.text) before.written
    pub cause : RoseOrStands before.sink_faults after.sink_faults

  -- memory ran out, and nothing was written
  pub record GivesUp (words : List (List ℕ)) (before after : World) : Type 0 where
    pub written : after.written ≡ before.written
    pub quiet : after.sink_faults ≡ before.sink_faults
    pub leaves : LeavesGiven words before.held after.held

  -- what a run left, by its status
  abbrev pub Runs : List (List ℕ) → World → World → Status → Type 0
  Runs words before after Done = Finishes words before after Done
  Runs words before after MappingRefused = Finishes words before after MappingRefused
  Runs words before after DocumentRefused = Finishes words before after DocumentRefused
  Runs words before after Usage = Finishes words before after Usage
  Runs words before after FileFault = Finishes words before after FileFault
  Runs words before after SinkFault = BreaksOff words before after
  Runs words before after Memory = GivesUp words before after
