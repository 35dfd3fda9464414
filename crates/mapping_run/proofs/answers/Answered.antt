-- What the commands give, by what is answered on the mapping, and on what holds data.
use Rattle.std.proofs.Common.{◌≡◌, ℕ, List, Result, Ok, Err, IfOk, inl, inr, subst}
use Rattle.emc_base.specs.Lists.{At}
use Rattle.emc_base.specs.declared.memory.Memory.{Memory}
use Rattle.mapping_core.specs.Rules.{IsReadSchema}
use Rattle.mapping_core.specs.Words.{HoldsState, HoldsTables, IsAccepted, IsViewsText, Schema, State, Tables}
use Rattle.texts.specs.command_texts.Texts.{accepted_text}
use Rattle.mapping_run.specs.declared.answers.answer.Answer.{Answer}
use Rattle.mapping_run.specs.declared.answers.command.Command.{Command}
use Rattle.mapping_run.specs.declared.answers.command.Command.TheVariants.{Check, Views, Store, Load, Save}
use Rattle.mapping_run.specs.declared.answers.status.Status.TheVariants.{Done}
use Rattle.mapping_run.specs.answers.Gives.{GivesBy, GivesOn, GivesStored, GivesTables, HasDocuments, RefusesMapping}
use Rattle.mapping_run.specs.answers.Loading.{GivesLoaded, GivesState}
use Rattle.mapping_run.specs.answers.Saving.{GivesSaving}
use Rattle.mapping_run.specs.answers.Says.{Says, SaysSome}

-- what holds of the documents of a mapping, and gives something else of them
documents_give : {contents : List (List ℕ)} {Holds Given : List ℕ → List ℕ → List ℕ → Type 0} → HasDocuments contents Holds
    → ((csdl ssdl msl : List ℕ) → Holds csdl ssdl msl → Given csdl ssdl msl) → HasDocuments contents Given
documents_give has gives = record {
  csdl = has.csdl;
  ssdl = has.ssdl;
  msl = has.msl;
  at_csdl = has.at_csdl;
  at_ssdl = has.at_ssdl;
  at_msl = has.at_msl;
  holds = gives has.csdl has.ssdl has.msl has.holds;
}

module _ (command : Command) (contents : List (List ℕ)) where
  -- by a mapping that isn't accepted
  pub answers_refused : (answer : Answer) → HasDocuments contents (λ csdl ssdl msl. RefusesMapping csdl ssdl msl answer) → GivesOn command contents answer
  answers_refused answer refuses = documents_give refuses (λ csdl ssdl msl why. inl why)

  -- by an accepted one, unless memory ran out
  pub answers_accepted : (schema : Schema) → HasDocuments contents (λ csdl ssdl msl. IsReadSchema csdl ssdl msl schema × IsAccepted schema) → (result : Result Answer Memory)
      → IfOk result (GivesBy command contents schema) → IfOk result (GivesOn command contents)
  answers_accepted schema accepts (Ok answer) given = documents_give accepts (λ csdl ssdl msl is. inr (schema, is.0, is.1, given))
  answers_accepted schema accepts (Err memory) given = tt

-- that it is accepted is what is given by an accepted mapping
pub checked_result : (contents : List (List ℕ)) (schema : Schema) (result : Result Answer Memory)
    → IfOk result (Says accepted_text Done) → IfOk result (GivesBy Check contents schema)
checked_result contents schema (Ok answer) given = given
checked_result contents schema (Err memory) given = tt

-- what is told of the cases is what the command gives by the mapping
pub views_result : (contents : List (List ℕ)) (schema : Schema) (result : Result Answer Memory)
    → IfOk result (SaysSome (IsViewsText schema) Done) → IfOk result (GivesBy Views contents schema)
views_result contents schema (Ok answer) given = given
views_result contents schema (Err memory) given = tt

-- and so is what is answered on an entity document
pub store_result : (contents : List (List ℕ)) (entities : List ℕ) → At contents 3 entities → (schema : Schema) (result : Result Answer Memory)
    → IfOk result (GivesStored entities schema) → IfOk result (GivesBy Store contents schema)
store_result contents entities at_entities schema (Ok answer) given = (entities, at_entities, given)
store_result contents entities at_entities schema (Err memory) given = tt

-- and so it is on a table document
pub load_result : (contents : List (List ℕ)) (document : List ℕ) → At contents 3 document → (schema : Schema) (result : Result Answer Memory)
    → IfOk result (GivesLoaded document schema) → IfOk result (GivesBy Load contents schema)
load_result contents document at_document schema (Ok answer) given = (document, at_document, given)
load_result contents document at_document schema (Err memory) given = tt

-- and on that with a change document
pub save_result : (contents : List (List ℕ)) (document list : List ℕ) → At contents 3 document → At contents 4 list → (schema : Schema) (result : Result Answer Memory)
    → IfOk result (GivesSaving document list schema) → IfOk result (GivesBy Save contents schema)
save_result contents document list at_document at_list schema (Ok answer) given = (document, list, at_document, at_list, given)
save_result contents document list at_document at_list schema (Err memory) given = tt

-- what is answered on a state is answered on the document that tells it
pub stored_result : (entities : List ℕ) (lent schema : Schema) → lent ≡ schema → (state : State) → HoldsState lent.model entities state
    → (result : Result Answer Memory) → IfOk result (GivesTables schema state) → IfOk result (GivesStored entities schema)
stored_result entities lent schema same state holds (Ok answer) given =
    inr (state, subst (λ (one : Schema). HoldsState one.model entities state) same holds, given)
stored_result entities lent schema same state holds (Err memory) given = tt

-- and what is answered on tables on the document that tells them
pub loaded_result : (document : List ℕ) (lent schema : Schema) → lent ≡ schema → (tables : Tables) → HoldsTables lent.store document tables
    → (result : Result Answer Memory) → IfOk result (GivesState schema tables) → IfOk result (GivesLoaded document schema)
loaded_result document lent schema same tables holds (Ok answer) given =
    inr (tables, subst (λ (one : Schema). HoldsTables one.store document tables) same holds, given)
loaded_result document lent schema same tables holds (Err memory) given = tt
