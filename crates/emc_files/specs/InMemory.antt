-- What the files and the sink in memory keep.
use Rattle.std.specs.Prelude.{◌≡◌, Result, Ok, Err, ℕ, List, ◌==◌, find, Option, option_map}
use Rattle.emc_files.specs.declared.files.ReadFault.{ReadFault}
use Rattle.emc_files.specs.declared.files.ReadFault.TheVariants as read
use Rattle.emc_files.specs.declared.files.ReplaceFault.{ReplaceFault}
use Rattle.emc_files.specs.declared.files.ReplaceFault.TheVariants as replace
use Rattle.emc_files.specs.declared.sink.SinkFault.{SinkFault}
use Rattle.emc_files.specs.declared.sink.SinkFault.TheVariants as put
use Rattle.emc_base.specs.Faults.{one_more}
use Rattle.emc_files.specs.Files.{FileMap}

-- files: what they hold, the numbers of the calls that fail, how many calls there were, and how many failed
pub record KeptFiles : Type 0 where
  pub map : FileMap
  pub failing : List ℕ
  pub calls : ℕ
  pub faults : ℕ

-- a sink: what was written, the calls that fail with how many bytes each still takes, and the two counts
pub record KeptSink : Type 0 where
  pub written : List ℕ
  pub failing : List (ℕ × ℕ)
  pub calls : ℕ
  pub faults : ℕ

-- a call on files is counted
abbrev pub CountsCall : KeptFiles → KeptFiles → Type 0
CountsCall before now = now.calls ≡ one_more before.calls

-- a call that fails is counted, and its fault too
abbrev pub CountsFault : KeptFiles → KeptFiles → Type 0
CountsFault before now = CountsCall before now × (now.faults ≡ one_more before.faults)

-- A read is counted, and a fault too; one that finds no memory changes nothing.
abbrev pub CountsFiles : KeptFiles → KeptFiles → Result (List ℕ) ReadFault → Type 0
CountsFiles before now (Ok bytes) = CountsCall before now
CountsFiles before now (Err read.Missing) = CountsCall before now
CountsFiles before now (Err read.TooLarge) = CountsCall before now
CountsFiles before now (Err read.Failed) = CountsFault before now
CountsFiles before now (Err read.Memory) = now ≡ before

-- So is a replace; one that fails leaves the files as they were.
abbrev pub CountsReplaced : KeptFiles → KeptFiles → Result (Unit {0}) ReplaceFault → Type 0
CountsReplaced before now (Ok done) = CountsCall before now
CountsReplaced before now (Err replace.Failed) = CountsFault before now × (now.map ≡ before.map)
CountsReplaced before now (Err replace.Memory) = now ≡ before

-- A put is counted, and a fault too; one that finds no memory changes nothing.
abbrev pub CountsSink : KeptSink → KeptSink → Result (Unit {0}) SinkFault → Type 0
CountsSink before now (Ok done) = now.calls ≡ one_more before.calls
CountsSink before now (Err put.Failed) = (now.calls ≡ one_more before.calls) × (now.faults ≡ one_more before.faults)
CountsSink before now (Err put.Memory) = now ≡ before

-- how many bytes a failing call still takes; none where the call doesn't fail
abbrev pub taken_at : List (ℕ × ℕ) → ℕ → Option ℕ
taken_at failing call = option_map (λ entry. entry.1) (find (λ entry. entry.0 == call) failing)
