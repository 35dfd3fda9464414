-- What `MemFiles` shows to contracts.
use Rattle.std.specs.BTreeMap.{get_by_text}
use Rattle.emc_files.specs.declared.mem_files.MemFiles.{MemFiles}
use Rattle.emc_files.specs.InMemory.{KeptFiles}

-- its files as a look-up, and what it counts
abbrev pub kept_files : MemFiles → KeptFiles
kept_files files = record { map = λ name. get_by_text files.map name; failing = files.failing; calls = files.calls; faults = files.faults }
