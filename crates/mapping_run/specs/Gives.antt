-- What the words of a command give, by what stands in the files.
use Rattle.std.specs.Prelude.{◌⊎◌, List, ℕ, Option, MatchOption}
use Rattle.emc_files.specs.Files.{FileMap}
use Rattle.texts.specs.command_texts.Texts.{usage_text}
use Rattle.mapping_run.specs.declared.answers.answer.Answer.{Answer}
use Rattle.mapping_run.specs.declared.answers.status.Status.TheVariants.{Usage, FileFault}
use Rattle.mapping_run.specs.declared.answers.command.Command.{Command}
use Rattle.mapping_run.specs.answers.Gives.{GivesOn}
use Rattle.mapping_run.specs.answers.Says.{Says, SaysSome}
use Rattle.mapping_run.specs.Commands.{command_of, inputs_of}
use Rattle.mapping_run.specs.Inputs.{AreInputs, LacksInput}

-- the first of these files that is missing or too large, or what the command gives on their contents
abbrev pub GivesInputs : Option FileMap → Command → List (List ℕ) → Answer → Type 0
GivesInputs held command names answer =
    SaysSome (LacksInput held names) FileFault answer
    ⊎ ((contents : List (List ℕ)) × AreInputs held names contents × GivesOn command contents answer)

-- The line that lists the commands, where the words are none; else what their command gives.
abbrev pub Gives : List (List ℕ) → Option FileMap → Answer → Type 0
Gives words held answer = MatchOption (command_of words)
    (Says usage_text Usage answer)
    (λ command. GivesInputs held command (inputs_of command words) answer)
