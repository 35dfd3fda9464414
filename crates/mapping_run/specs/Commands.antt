-- The forms of words that are commands.
use Rattle.std.specs.Prelude.{ℕ, List, [], ◌∷◌, take, drop, length, ◌==◌, Option, Some, None, option_and_then, slice_get, if◌then◌else◌, codes}
use Rattle.std.specs.Str.{bytes_eq}
use Rattle.mapping_run.specs.declared.answers.command.Command.{Command}
use Rattle.mapping_run.specs.declared.answers.command.Command.TheVariants.{Check, Views, Store, Load, Save}
use Rattle.mapping_run.specs.answers.Commands.{input_count, name_count}

-- the command of a name
abbrev pub command_named : List ℕ → Option Command
command_named word =
    if bytes_eq word (codes "check") then Some Check
    else (if bytes_eq word (codes "views") then Some Views
    else (if bytes_eq word (codes "store") then Some Store
    else (if bytes_eq word (codes "load") then Some Load
    else (if bytes_eq word (codes "save") then Some Save else None))))

-- the command, if as many names of files follow
abbrev pub with_names : ℕ → Command → Option Command
with_names count command = if count == name_count command then Some command else None

-- the command that the words are; None where they are none
abbrev pub command_of : List (List ℕ) → Option Command
command_of [] = None
command_of (word ∷ names) = option_and_then (with_names (length names)) (command_named word)

-- the words that name the input files of a command, in the order in which the files are read
abbrev pub inputs_of : Command → List (List ℕ) → List (List ℕ)
inputs_of command words = take (input_count command) (drop 1 words)

-- the word that names the file which a command writes; None where it writes none
abbrev pub output_of : Command → List (List ℕ) → Option (List ℕ)
output_of Check words = None
output_of Views words = None
output_of Store words = None
output_of Load words = None
output_of Save words = slice_get words 6
