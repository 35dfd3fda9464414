-- What is answered on changes, by what saving them told.
use Rattle.std.proofs.Common.{◌≡◌, ◌+◌, ◌++◌, ◌∷◌, [], ◌∙◌, ℕ, List, take, flat_map, Some, slice_get, Result, Ok, Err, IfOk, inr, ap, append-nil, subst}
use Rattle.std.proofs.lemmas.Grind.{flat_map-append}
use Rattle.emc_base.proofs.Loops.{take_item}
use Rattle.emc_base.specs.declared.memory.Memory.{Memory as NoMemory}
use Rattle.mapping_core.specs.Words.{AreTables, Change, HoldsChanges, HoldsTables, Saves, Schema, Tables}
use Rattle.mapping_core.specs.declared.saving.saved.Saved.{Saved}
use Rattle.mapping_core.specs.declared.saving.fault.SaveFault.{SaveFault}
use Rattle.mapping_core.specs.declared.saving.fault.SaveFault.TheVariants.{Load, Refused, Breach, FreeReference, Circular, Memory}
use Rattle.mapping_run.specs.declared.answers.answer.Answer.{Answer}
use Rattle.mapping_run.specs.answers.Answers.{NamesTableOf}
use Rattle.mapping_run.specs.answers.Saving.{GivesChanged, GivesSaved, GivesSaving, SavesSo, SaysSaved}
use Rattle.mapping_run.proofs.answers.Loading.{names_table}

-- one more item is passed
pub passed_item : {X Y : Type 0} (f : X → List Y) (items : List X) (i : ℕ) (item : X) → slice_get items i ≡ Some item
    → flat_map f (take (i + 1) items) ≡ flat_map f (take i items) ++ f item
passed_item f items i item here =
    ap (flat_map f) (take_item items i item here) ∙ flat_map-append f (take i items) (item ∷ []) ∙ ap (λ more. flat_map f (take i items) ++ more) (append-nil (f item))

module _ (schema : Schema) (tables : Tables) (changes : List Change) where
  -- what is saved is said
  pub saved_told : (saved : Saved) → Saves schema tables changes (Ok saved) → (result : Result Answer NoMemory)
      → IfOk result (SaysSaved schema saved) → IfOk result (GivesSaved schema tables changes)
  saved_told saved saves (Ok answer) given = (Ok saved, saves, given)
  saved_told saved saves (Err memory) given = tt

  -- or why nothing is
  pub unsaved_told : (fault : SaveFault) → Saves schema tables changes (Err fault) → (result : Result Answer NoMemory)
      → IfOk result (SavesSo schema (Err fault)) → IfOk result (GivesSaved schema tables changes)
  unsaved_told fault saves (Ok answer) given = (Err fault, saves, given)
  unsaved_told fault saves (Err memory) given = tt

  -- tables that tell no state differ in a row of a table of the store, if they differ
  pub names_table_of : (fault : SaveFault) → Saves schema tables changes (Err fault) → NamesTableOf schema fault
  names_table_of (Load fault) saves = names_table schema tables fault saves.0
  names_table_of (Refused index why) saves = tt
  names_table_of (Breach breach) saves = tt
  names_table_of (FreeReference place) saves = tt
  names_table_of (Circular ring) saves = tt
  names_table_of Memory saves = tt

  -- the tables that are saved have the form of the store
  pub are_saved_tables : (saved : Saved) → Saves schema tables changes (Ok saved) → AreTables schema.store saved.tables
  are_saved_tables saved saves = saves.legal.shape

-- what is answered on changes is answered on the document that tells them
pub changed_result : (list : List ℕ) (lent schema : Schema) → lent ≡ schema → (tables : Tables) (changes : List Change) → HoldsChanges lent.model list changes
    → (result : Result Answer NoMemory) → IfOk result (GivesSaved schema tables changes) → IfOk result (GivesChanged list schema tables)
changed_result list lent schema same tables changes holds (Ok answer) given =
    inr (changes, subst (λ (one : Schema). HoldsChanges one.model list changes) same holds, given)
changed_result list lent schema same tables changes holds (Err memory) given = tt

-- and what is answered on tables with it on the document that tells them
pub saving_result : (document list : List ℕ) (lent schema : Schema) → lent ≡ schema → (tables : Tables) → HoldsTables lent.store document tables
    → (result : Result Answer NoMemory) → IfOk result (GivesChanged list schema tables) → IfOk result (GivesSaving document list schema)
saving_result document list lent schema same tables holds (Ok answer) given =
    inr (tables, subst (λ (one : Schema). HoldsTables one.store document tables) same holds, given)
saving_result document list lent schema same tables holds (Err memory) given = tt
