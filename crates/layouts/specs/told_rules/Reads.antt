-- What a reader answers that asks one rule after another, and stops at the first that is broken: before and after the rule is told.
use Rattle.std.specs.Prelude.{◌≡◌, Some, None, Result, Ok, Err, ⊤}
use Rattle.groupings.specs.least_fault.Least.{IsLeast}
use Rattle.layouts.specs.declared.fault.Fault.{Fault}
use Rattle.layouts.specs.Faults.{fault_cmp}
use Rattle.edm_types.specs.declared.faults.VocabFault.{VocabFault}
use Rattle.edm_types.specs.declared.faults.VocabFault.TheVariants as read
use Rattle.edm_types.specs.declared.faults.VocabFile.{VocabFile}
use Rattle.layouts.specs.declared.told_rules.stop.Stop.{Stop}
use Rattle.layouts.specs.declared.told_rules.stop.Stop.TheVariants as stop
use Rattle.layouts.specs.told_rules.Told.{told_as}

-- by some faults, and what is meant where there are none: Ok with that, where there are none; else the least of them. Memory says nothing.
abbrev pub Reads : {X : Type 0} → (Fault → Type 0) → X → Result X Stop → Type 0
Reads P meant (Ok read) = IsLeast fault_cmp P None × (read ≡ meant)
Reads P meant (Err (stop.Fault fault)) = IsLeast fault_cmp P (Some fault)
Reads P meant (Err stop.Memory) = ⊤

-- of a file, by some faults, and what Ok says of what was read: else the least of the faults is told. Memory says nothing.
abbrev pub Answers : {X : Type 0} → VocabFile → (Fault → Type 0) → (X → Type 0) → Result X VocabFault → Type 0
Answers file P IsRead (Ok read) = IsRead read
Answers file P IsRead (Err (read.Rule told)) = (fault : Fault) × IsLeast fault_cmp P (Some fault) × (told ≡ told_as file fault)
Answers file P IsRead (Err read.Memory) = ⊤
