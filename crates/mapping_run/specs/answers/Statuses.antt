-- The exit statuses.
use Rattle.std.specs.Prelude.{ℕ}
use Rattle.mapping_run.specs.declared.answers.status.Status.{Status}
use Rattle.mapping_run.specs.declared.answers.status.Status.TheVariants.{Done, MappingRefused, DocumentRefused, Usage, FileFault, SinkFault, Memory}

-- the number with which the program ends
abbrev pub status_number : Status → ℕ
status_number Done = 0
status_number MappingRefused = 1
status_number DocumentRefused = 2
status_number Usage = 3
status_number FileFault = 4
status_number SinkFault = 5
status_number Memory = 6
