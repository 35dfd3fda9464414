-- A broken rule as it is told.
-- Source: JSON pointers, RFC 6901.
use Rattle.std.specs.Prelude.{◌≡◌, ⊤}
use Rattle.json_form.specs.Pointers.{pointer_of}
use Rattle.layouts.specs.declared.fault.Fault.{Fault}
use Rattle.layouts.specs.Rules.{rule_number}
use Rattle.edm_types.specs.declared.faults.RuleFault.{RuleFault}
use Rattle.edm_types.specs.declared.faults.VocabFile.{VocabFile}
use Rattle.edm_types.specs.declared.faults.VocabFault.{VocabFault}
use Rattle.edm_types.specs.declared.faults.VocabFault.TheVariants.{Rule, Memory}

-- a fault as it is told: the file, the number of the rule, and the pointer of the place
abbrev pub told_as : VocabFile → Fault → RuleFault
told_as file fault = record { file = file; rule = rule_number fault.rule; place = pointer_of fault.place }

-- this is told, or want of memory
abbrev pub IsToldOrMemory : RuleFault → VocabFault → Type 0
IsToldOrMemory fault (Rule told) = told ≡ fault
IsToldOrMemory fault Memory = ⊤
