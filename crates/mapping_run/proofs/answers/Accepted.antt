-- What documents mean that break no rule is accepted, or isn't, as it was decided.
use Rattle.std.proofs.Common.{ℕ, List, Result, Ok, Err, inl, inr, sym, subst}
use Rattle.emc_base.specs.Lists.{At}
use Rattle.mapping_core.specs.Rules.{IsReadSchema}
use Rattle.mapping_core.specs.Words.{IsAccepted, IsFailureOf, Schema}
use Rattle.mapping_core.specs.Compiles.{Decides}
use Rattle.mapping_core.specs.declared.accepted.AcceptedMapping.{AcceptedMapping}
use Rattle.mapping_core.specs.declared.verdict.Refusal.{Refusal}
use Rattle.mapping_core.specs.declared.verdict.Refusal.TheVariants as refusal
use Rattle.texts.specs.command_texts.Texts.{IsFailText}
use Rattle.mapping_run.specs.declared.answers.answer.Answer.{Answer}
use Rattle.mapping_run.specs.declared.answers.answer.Halt.{Halt}
use Rattle.mapping_run.specs.declared.answers.answer.Halt.TheVariants.{Tells, Memory}
use Rattle.mapping_run.specs.declared.answers.status.Status.TheVariants.{MappingRefused}
use Rattle.mapping_run.specs.answers.Gives.{HasDocuments, RefusesSchema}
use Rattle.mapping_run.specs.answers.Says.{SaysSome}
use Rattle.mapping_run.specs.answers.Answers.{Accepts, AcceptsSchema, IsRefusal, ShowsFailure, HaltsRefused}

module _ (contents : List (List ℕ)) (csdl ssdl msl : List ℕ) (at_csdl : At contents 0 csdl) (at_ssdl : At contents 1 ssdl) (at_msl : At contents 2 msl) where
  -- the documents are these
  these : {Holds : List ℕ → List ℕ → List ℕ → Type 0} → Holds csdl ssdl msl → HasDocuments contents Holds
  these holds = record { csdl = csdl; ssdl = ssdl; msl = msl; at_csdl = at_csdl; at_ssdl = at_ssdl; at_msl = at_msl; holds = holds }

  pub accepts_meant : (schema : Schema) → IsReadSchema csdl ssdl msl schema → (result : Result AcceptedMapping Halt) → AcceptsSchema schema result → Accepts contents result
  accepts_meant schema read (Ok mapping) (same, accepted) =
      let Is : Schema → Type 0 = λ one. IsReadSchema csdl ssdl msl one × IsAccepted one in these (subst Is (sym same) (read, accepted))
  accepts_meant schema read (Err (Tells answer)) refuses = these (inr (schema, read.means, refuses))
  accepts_meant schema read (Err Memory) given = tt

-- what tells of a refusal tells why what documents mean isn't accepted
refuses_answered : (schema : Schema) (refusal : Refusal) → Decides schema (Err refusal) → (answer : Answer) → IsRefusal refusal answer → RefusesSchema schema answer
refuses_answered schema (refusal.Limit back fault) decided answer told = inl (fault, decided.1, told)
refuses_answered schema (refusal.Fails back failure) decided answer told =
    let Told : Schema → Type 0 = λ one. SaysSome (IsFailText one.model failure) MappingRefused answer in
    inr (decided.1, (failure, decided.2, subst Told decided.0 told))
refuses_answered schema refusal.Memory decided answer told = absurd told

-- unless memory ran out
pub refuses_decided : (schema : Schema) (refusal : Refusal) → Decides schema (Err refusal) → (halt : Halt) → HaltsRefused refusal halt → AcceptsSchema schema (Err halt)
refuses_decided schema refusal decided (Tells answer) told = refuses_answered schema refusal decided answer told
refuses_decided schema refusal decided Memory told = tt

-- and what refuses it shows a failure of the schema that is given back
pub shows_decided : (schema : Schema) (refusal : Refusal) → Decides schema (Err refusal) → ShowsFailure refusal
shows_decided schema (refusal.Limit back fault) decided = tt
shows_decided schema (refusal.Fails back failure) decided =
    let Fails : Schema → Type 0 = λ one. IsFailureOf one failure in subst Fails (sym decided.0) decided.2
shows_decided schema refusal.Memory decided = tt
