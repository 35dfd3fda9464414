-- What the steps of answering a command give: whether the mapping is accepted, and by which names tables are refused.
use Rattle.std.specs.Prelude.{◌≡◌, ℕ, List, Any, Result, Ok, Err, ⊤}
use Rattle.mapping_core.specs.Rules.{IsReadSchema}
use Rattle.mapping_core.specs.Words.{IsAccepted, IsFailureOf, Schema}
use Rattle.mapping_core.specs.declared.saving.fault.SaveFault.{SaveFault}
use Rattle.mapping_core.specs.declared.loading.LoadFault.{LoadFault}
use Rattle.mapping_core.specs.declared.loading.LoadFault.TheVariants as load
use Rattle.mapping_core.specs.declared.saving.fault.SaveFault.TheVariants as save
use Rattle.mapping_core.specs.declared.verdict.Refusal.{Refusal}
use Rattle.mapping_core.specs.declared.verdict.Refusal.TheVariants as refusal
use Rattle.texts.specs.command_texts.Texts.{IsFailText, limit_text}
use Rattle.mapping_core.specs.declared.accepted.AcceptedMapping.{AcceptedMapping}
use Rattle.mapping_run.specs.declared.answers.answer.Answer.{Answer}
use Rattle.mapping_run.specs.declared.answers.answer.Halt.{Halt}
use Rattle.mapping_run.specs.declared.answers.answer.Halt.TheVariants.{Tells, Memory}
use Rattle.mapping_run.specs.declared.answers.status.Status.TheVariants.{MappingRefused}
use Rattle.mapping_run.specs.answers.Gives.{HasDocuments, RefusesMapping, RefusesSchema}
use Rattle.mapping_run.specs.answers.Says.{Says, SaysSome}

-- the accepted mapping of the documents that are the first three of these contents; or what is told where they aren't accepted
abbrev pub Accepts : List (List ℕ) → Result AcceptedMapping Halt → Type 0
Accepts contents (Ok accepted) = HasDocuments contents (λ csdl ssdl msl. IsReadSchema csdl ssdl msl accepted × IsAccepted accepted)
Accepts contents (Err (Tells answer)) = HasDocuments contents (λ csdl ssdl msl. RefusesMapping csdl ssdl msl answer)
Accepts contents (Err Memory) = ⊤

-- the same of what documents mean that break no rule
abbrev pub AcceptsSchema : Schema → Result AcceptedMapping Halt → Type 0
AcceptsSchema schema (Ok accepted) = (accepted ≡ schema) × IsAccepted schema
AcceptsSchema schema (Err (Tells answer)) = RefusesSchema schema answer
AcceptsSchema schema (Err Memory) = ⊤

-- a refusal for a legal state that fails gives a state that does, of the schema that was given back
abbrev pub ShowsFailure : Refusal → Type 0
ShowsFailure (refusal.Limit back fault) = ⊤
ShowsFailure (refusal.Fails back failure) = IsFailureOf back failure
ShowsFailure refusal.Memory = ⊤

-- a refusal is answered so: by the limit that is passed, or by the state that fails, in the names of the schema that was given back
abbrev pub IsRefusal : Refusal → Answer → Type 0
IsRefusal (refusal.Limit back fault) answer = Says (limit_text fault) MappingRefused answer
IsRefusal (refusal.Fails back failure) answer = SaysSome (IsFailText back.model failure) MappingRefused answer
IsRefusal refusal.Memory answer = ⊥

-- what a command stops with for a refusal: its answer, unless memory ran out
abbrev pub HaltsRefused : Refusal → Halt → Type 0
HaltsRefused refusal (Tells answer) = IsRefusal refusal answer
HaltsRefused refusal Memory = ⊤

-- a row in which tables differ is told by the name of a table of the store
abbrev pub NamesTable : Schema → LoadFault → Type 0
NamesTable schema (load.Differs place held demanded) = Any (λ table. table.name ≡ place.name) schema.store.tables
NamesTable schema fault = ⊤

-- the same of the tables of which changes aren't saved
abbrev pub NamesTableOf : Schema → SaveFault → Type 0
NamesTableOf schema (save.Load fault) = NamesTable schema fault
NamesTableOf schema fault = ⊤
