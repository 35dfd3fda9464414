-- What the program reads from and writes to, as far as it is told, with the two counts of faults.
use Rattle.std.specs.Prelude.{ℕ, List, Option}
use Rattle.emc_files.specs.Files.{FileMap}

-- the files, the count of their faults, what was written, and the count of the sink's faults
pub record World : Type 0 where
  pub held : Option FileMap
  pub file_faults : ℕ
  pub written : Option (List ℕ)
  pub sink_faults : ℕ

-- the same from its four parts
abbrev pub world : Option FileMap → ℕ → Option (List ℕ) → ℕ → World
world held file_faults written sink_faults = record { held = held; file_faults = file_faults; written = written; sink_faults = sink_faults }
