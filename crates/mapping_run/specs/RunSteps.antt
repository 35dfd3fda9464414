-- What the steps of a run answer: reading the input files, and saving what is to be saved.
use Rattle.std.specs.Prelude.{◌≡◌, ◌⊎◌, ℕ, List, Option, Some, Result, Ok, Err, IsSomeAnd, codes, ⊤}
use Rattle.emc_base.specs.declared.memory.Memory.{Memory as NoMemory}
use Rattle.emc_files.specs.declared.files.ReadFault.{ReadFault}
use Rattle.emc_files.specs.declared.files.ReadFault.TheVariants as fault
use Rattle.emc_files.specs.declared.files.ReplaceFault.TheVariants as replace
use Rattle.emc_base.specs.Faults.{RoseOrStands}
use Rattle.emc_files.specs.Files.{FileMap, Replaces}
use Rattle.mapping_run.specs.declared.answers.answer.Answer.{Answer}
use Rattle.mapping_run.specs.declared.answers.answer.Halt.{Halt}
use Rattle.mapping_run.specs.declared.answers.answer.Halt.TheVariants.{Tells, Memory}
use Rattle.mapping_run.specs.declared.answers.status.Status.TheVariants.{FileFault}
use Rattle.mapping_run.specs.declared.answers.command.Command.{Command}
use Rattle.mapping_run.specs.answers.Says.{Says, SaysSome}
use Rattle.mapping_run.specs.Commands.{inputs_of}
use Rattle.mapping_run.specs.Gives.{GivesInputs}
use Rattle.mapping_run.specs.Inputs.{AreInputs, FailsToRead, IsInput, IsLacking, LacksInput}
use Rattle.mapping_run.specs.Runs.{Ends, LeavesAt}
use Rattle.texts.specs.command_texts.Texts.{file_text}

-- a line on a file is told, or memory ran out
abbrev pub IsTold : List ℕ → Halt → Type 0
IsTold text (Tells answer) = Says text FileFault answer
IsTold text Memory = ⊤

-- what is told of a read that failed so
abbrev pub TellsReadFault : List ℕ → ReadFault → Halt → Type 0
TellsReadFault name fault.Missing halt = IsTold (file_text (codes "missing") name) halt
TellsReadFault name fault.TooLarge halt = IsTold (file_text (codes "toolarge") name) halt
TellsReadFault name fault.Failed halt = IsTold (file_text (codes "failed") name) halt
TellsReadFault name fault.Memory halt = halt ≡ Memory

-- may_fail: of which names a read may fail; held: what the files hold; before and now: the counts of their faults
module _ (may_fail : List ℕ → Type 0) (held : Option FileMap) (before now : ℕ) where
  -- the content of an input file; or what is told where it is missing or too large, or could not be read
  abbrev pub ReadsInput : List ℕ → Result (List ℕ) Halt → Type 0
  ReadsInput name (Ok bytes) = (now ≡ before) × IsInput held name bytes
  ReadsInput name (Err (Tells answer)) =
      ((now ≡ before) × SaysSome (IsLacking held name) FileFault answer)
      ⊎ (RoseOrStands before now × may_fail name × Says (file_text (codes "failed") name) FileFault answer)
  ReadsInput name (Err Memory) = ⊤

  -- the contents of the input files; or what is told of the first that is missing or too large, or could not be read
  abbrev pub ReadsInputs : List (List ℕ) → Result (List (List ℕ)) Halt → Type 0
  ReadsInputs names (Ok contents) = (now ≡ before) × AreInputs held names contents
  ReadsInputs names (Err (Tells answer)) =
      ((now ≡ before) × SaysSome (LacksInput held names) FileFault answer)
      ⊎ (RoseOrStands before now × SaysSome (FailsToRead may_fail held names) FileFault answer)
  ReadsInputs names (Err Memory) = ⊤

  -- what a command gives; or what is told of its first input file that could not be read
  abbrev pub GivesOrTells : Command → List (List ℕ) → Answer → Type 0
  GivesOrTells command words answer =
      ((now ≡ before) × GivesInputs held command (inputs_of command words) answer)
      ⊎ (RoseOrStands before now × SaysSome (FailsToRead may_fail held (inputs_of command words)) FileFault answer)

-- left: what the files hold afterwards
module _ (may_fail : List ℕ → Type 0) (held left : Option FileMap) (before now : ℕ) where
  -- What is printed after an answer whose text is saved at a name: the answer, where the files are as it leaves them; or that the file could not be replaced. Where memory
  -- ran out the files are as they were.
  abbrev pub SavesAt : List ℕ → Answer → Result Answer NoMemory → Type 0
  SavesAt name answer (Ok printed) =
      ((now ≡ before) × (printed ≡ answer) × LeavesAt (Some name) answer held left)
      ⊎ (RoseOrStands before now × may_fail name × Says (file_text (codes "failed") name) FileFault printed
      × IsSomeAnd answer.saved (λ text. Replaces held left name text (Err replace.Failed)))
  SavesAt name answer (Err memory) = left ≡ held

  -- how a run ends where its text is written; where memory ran out the files are as they were
  abbrev pub EndsOrStops : List (List ℕ) → Result Answer NoMemory → Type 0
  EndsOrStops words (Ok answer) = Ends may_fail words held before now left answer
  EndsOrStops words (Err memory) = left ≡ held
