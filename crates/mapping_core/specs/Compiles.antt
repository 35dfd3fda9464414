-- What reading three documents answers, what deciding on what they mean answers, and what both together do.
use Rattle.std.specs.Prelude.{◌≡◌, ℕ, List, Some, Result, Ok, Err, ⊤}
use Rattle.edm_types.specs.declared.faults.VocabFault.{VocabFault}
use Rattle.edm_types.specs.declared.faults.VocabFault.TheVariants as read
use Rattle.round_trip.specs.Words.{Schema}
use Rattle.cells.specs.declared.cells.Cells.{Cells}
use Rattle.region_partition.specs.mapping_limits.FirstLimit.{IsFirstLimit}
use Rattle.mapping_core.specs.mapping_verdict.Words.{IsFailureOf}
use Rattle.mapping_core.specs.declared.accepted.AcceptedMapping.{AcceptedMapping}
use Rattle.mapping_core.specs.declared.compiled.Compiled.{Compiled}
use Rattle.mapping_core.specs.declared.deciding.Judgement.{Judgement}
use Rattle.mapping_core.specs.declared.deciding.Judgement.TheVariants as judgement
use Rattle.mapping_core.specs.declared.verdict.Refusal.{Refusal}
use Rattle.mapping_core.specs.declared.verdict.Refusal.TheVariants as refusal
use Rattle.mapping_core.specs.declared.verdict.Verdict.{Verdict}
use Rattle.mapping_core.specs.declared.verdict.Verdict.TheVariants.{Rule, Limit, Fails, Memory}
use Rattle.mapping_core.specs.Accepted.{HasRegions, IsAccepted, PassesNoLimit}
use Rattle.mapping_core.specs.Rules.{IsReadSchema, IsToldRule, Means}

-- Ok with what the documents mean, where they break no rule; else the rule that is told. Memory says nothing.
abbrev pub ReadsSchema : List ℕ → List ℕ → List ℕ → Result Schema VocabFault → Type 0
ReadsSchema csdl ssdl msl (Ok schema) = IsReadSchema csdl ssdl msl schema
ReadsSchema csdl ssdl msl (Err (read.Rule fault)) = IsToldRule csdl ssdl msl fault
ReadsSchema csdl ssdl msl (Err read.Memory) = ⊤

-- the first limit that is passed; or, where none is, a legal state that fails; or, where it is accepted, the regions of each entity set
abbrev pub Judges : Schema → Cells → Judgement → Type 0
Judges schema cells (judgement.Keeps regions) = IsAccepted schema × HasRegions schema cells regions
Judges schema cells (judgement.Limit fault) = IsFirstLimit schema (Some fault)
Judges schema cells (judgement.Fails failure) = PassesNoLimit schema × IsFailureOf schema failure

-- Ok where the schema is accepted; else the first limit that is passed, or, where none is, a legal state that fails, with the schema given back. Memory says
-- nothing.
abbrev pub Decides : Schema → Result AcceptedMapping Refusal → Type 0
Decides schema (Ok accepted) = (accepted ≡ schema) × IsAccepted schema
Decides schema (Err (refusal.Limit back fault)) = (back ≡ schema) × IsFirstLimit schema (Some fault)
Decides schema (Err (refusal.Fails back failure)) = (back ≡ schema) × PassesNoLimit schema × IsFailureOf schema failure
Decides schema (Err refusal.Memory) = ⊤

-- Ok where the documents break no rule and are accepted; else the rule that is told; or, where none is broken, the first limit that is passed; or, where none
-- is, a legal state that fails. Memory says nothing.
abbrev pub Compiles : List ℕ → List ℕ → List ℕ → Result Compiled Verdict → Type 0
Compiles csdl ssdl msl (Ok compiled) = Means csdl ssdl msl compiled × IsAccepted compiled
Compiles csdl ssdl msl (Err (Rule fault)) = IsToldRule csdl ssdl msl fault
Compiles csdl ssdl msl (Err (Limit fault)) = (schema : Schema) × Means csdl ssdl msl schema × IsFirstLimit schema (Some fault)
Compiles csdl ssdl msl (Err (Fails failure)) = (schema : Schema) × Means csdl ssdl msl schema × PassesNoLimit schema × IsFailureOf schema failure
Compiles csdl ssdl msl (Err Memory) = ⊤
