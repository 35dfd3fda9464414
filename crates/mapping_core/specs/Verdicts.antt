-- A verdict on documents, of what was told by reading them and by deciding on what they mean.
use Rattle.std.specs.Prelude.{◌≡◌}
use Rattle.edm_types.specs.declared.faults.VocabFault.{VocabFault}
use Rattle.edm_types.specs.declared.faults.VocabFault.TheVariants as read
use Rattle.mapping_core.specs.declared.verdict.Refusal.{Refusal}
use Rattle.mapping_core.specs.declared.verdict.Refusal.TheVariants as refusal
use Rattle.mapping_core.specs.declared.verdict.Verdict.{Verdict}
use Rattle.mapping_core.specs.declared.verdict.Verdict.TheVariants.{Rule, Limit, Fails, Memory}

-- the verdict tells what reading told
abbrev pub TellsFault : VocabFault → Verdict → Type 0
TellsFault (read.Rule fault) verdict = verdict ≡ Rule fault
TellsFault read.Memory verdict = verdict ≡ Memory

-- the verdict tells why the schema is refused
abbrev pub TellsRefusal : Refusal → Verdict → Type 0
TellsRefusal (refusal.Limit schema fault) verdict = verdict ≡ Limit fault
TellsRefusal (refusal.Fails schema failure) verdict = verdict ≡ Fails failure
TellsRefusal refusal.Memory verdict = verdict ≡ Memory
