-- How many files the words of a command name.
use Rattle.std.specs.Prelude.{ℕ}
use Rattle.mapping_run.specs.declared.answers.command.Command.{Command}
use Rattle.mapping_run.specs.declared.answers.command.Command.TheVariants.{Check, Views, Store, Load, Save}

-- the input files: three documents of a mapping, and for some commands those that hold data
abbrev pub input_count : Command → ℕ
input_count Check = 3
input_count Views = 3
input_count Store = 4
input_count Load = 4
input_count Save = 5

-- all files: the input files, and for `save` the one that is written
abbrev pub name_count : Command → ℕ
name_count Check = 3
name_count Views = 3
name_count Store = 4
name_count Load = 4
name_count Save = 6
