-- What a command answers, by the content of its input files: what is printed, the status that the program ends with, and what is saved. Each relation speaks of the
-- answer alone; what is left in the files is said where a run ends, in `Runs`.
use Rattle.std.specs.Prelude.{◌⊎◌, ℕ, List, Some}
use Rattle.emc_base.specs.Lists.{At}
use Rattle.mapping_core.specs.Rules.{IsReadSchema}
use Rattle.mapping_core.specs.Words.{Breach, Failure, HoldsNoState, HoldsState, IsAccepted, IsBreachOf, IsFailureOf, IsFirstLimit, IsLegal, IsTablesText, IsToldRule, IsViewsText, LimitFault, Means, PassesNoLimit, RuleFault, Schema, State}
use Rattle.texts.specs.command_texts.Texts.{accepted_text, entity_breach_text, entity_shape_text, IsFailText, limit_text, rule_text}
use Rattle.mapping_run.specs.declared.answers.answer.Answer.{Answer}
use Rattle.mapping_run.specs.declared.answers.status.Status.TheVariants.{Done, MappingRefused, DocumentRefused}
use Rattle.mapping_run.specs.declared.answers.command.Command.{Command}
use Rattle.mapping_run.specs.declared.answers.command.Command.TheVariants.{Check, Views, Store, Load, Save}
use Rattle.mapping_run.specs.answers.Loading.{GivesLoaded}
use Rattle.mapping_run.specs.answers.Saving.{GivesSaving}
use Rattle.mapping_run.specs.answers.Says.{Says, SaysSome}

-- the documents of a mapping, which are the first three of some contents, and of which this holds
pub record HasDocuments (contents : List (List ℕ)) (Holds : List ℕ → List ℕ → List ℕ → Type 0) : Type 0 where
  pub csdl : List ℕ
  pub ssdl : List ℕ
  pub msl : List ℕ
  pub at_csdl : At contents 0 csdl
  pub at_ssdl : At contents 1 ssdl
  pub at_msl : At contents 2 msl
  pub holds : Holds csdl ssdl msl

-- What documents mean that break no rule isn't accepted: the first limit that is passed, or, where none is, a legal state that fails.
abbrev pub RefusesSchema : Schema → Answer → Type 0
RefusesSchema schema answer =
    ((fault : LimitFault) × IsFirstLimit schema (Some fault) × Says (limit_text fault) MappingRefused answer)
    ⊎ (PassesNoLimit schema × ((failure : Failure) × IsFailureOf schema failure × SaysSome (IsFailText schema.model failure) MappingRefused answer))

-- three documents aren't accepted: the rule that is told; or, where they break none, why what they mean isn't
abbrev pub RefusesMapping : List ℕ → List ℕ → List ℕ → Answer → Type 0
RefusesMapping csdl ssdl msl answer =
    ((fault : RuleFault) × IsToldRule csdl ssdl msl fault × Says (rule_text fault) MappingRefused answer)
    ⊎ ((schema : Schema) × Means csdl ssdl msl schema × RefusesSchema schema answer)

-- what is given on a state: the first breach of its rules; or, where it is legal, its tables
abbrev pub GivesTables : Schema → State → Answer → Type 0
GivesTables schema state answer =
    ((breach : Breach) × IsBreachOf schema.model state breach × Says (entity_breach_text breach) DocumentRefused answer)
    ⊎ (IsLegal schema.model state × SaysSome (IsTablesText schema state) Done answer)

-- what is given on an entity document: the first place where it is of another shape; or what is given on the state that it tells
abbrev pub GivesStored : List ℕ → Schema → Answer → Type 0
GivesStored entities schema answer =
    ((pointer : List ℕ) × HoldsNoState schema.model entities pointer × Says (entity_shape_text pointer) DocumentRefused answer)
    ⊎ ((state : State) × HoldsState schema.model entities state × GivesTables schema state answer)

-- what a command gives by an accepted mapping, on the contents of its input files
abbrev pub GivesBy : Command → List (List ℕ) → Schema → Answer → Type 0
GivesBy Check contents schema answer = Says accepted_text Done answer
GivesBy Views contents schema answer = SaysSome (IsViewsText schema) Done answer
GivesBy Store contents schema answer = (entities : List ℕ) × At contents 3 entities × GivesStored entities schema answer
GivesBy Load contents schema answer = (document : List ℕ) × At contents 3 document × GivesLoaded document schema answer
GivesBy Save contents schema answer = (document : List ℕ) × (list : List ℕ) × At contents 3 document × At contents 4 list × GivesSaving document list schema answer

-- What every command gives on the contents of its input files, of which the first three are the documents of a mapping: why they aren't accepted; or, where
-- they are, what it gives by the mapping that they mean, which is sound, and then every legal state is kept.
abbrev pub GivesOn : Command → List (List ℕ) → Answer → Type 0
GivesOn command contents answer = HasDocuments contents (λ csdl ssdl msl. RefusesMapping csdl ssdl msl answer
    ⊎ ((schema : Schema) × IsReadSchema csdl ssdl msl schema × IsAccepted schema × GivesBy command contents schema answer))
