-- What is given on tables and changes by an accepted mapping: the row changes and the tables afterwards, or why the changes aren't saved.
use Rattle.std.specs.Prelude.{◌≡◌, ◌⊎◌, ℕ, List, Result, Ok, Err, IsSomeAnd, flat_map}
use Rattle.mapping_core.specs.Words.{Change, HoldsChanges, HoldsNoChanges, HoldsNoTables, HoldsTables, IsPrintedTables, Saves, Schema, Tables}
use Rattle.mapping_core.specs.declared.saving.saved.Saved.{Saved}
use Rattle.mapping_core.specs.declared.saving.fault.SaveFault.{SaveFault}
use Rattle.mapping_core.specs.declared.saving.fault.SaveFault.TheVariants.{Load, Refused, Breach, FreeReference, Circular, Memory}
use Rattle.texts.specs.change_texts.Texts.{change_shape_text, circular_text, free_reference_text, new_breach_text, refused_text, row_change_text}
use Rattle.texts.specs.command_texts.Texts.{table_shape_text}
use Rattle.mapping_run.specs.declared.answers.answer.Answer.{Answer}
use Rattle.mapping_run.specs.declared.answers.status.Status.TheVariants.{Done, DocumentRefused}
use Rattle.mapping_run.specs.answers.Says.{Says}
use Rattle.mapping_run.specs.answers.Loading.{RefusesTables}

-- the row changes are printed, each in a line, and the tables afterwards are saved
pub record SaysSaved (schema : Schema) (saved : Saved) (answer : Answer) : Type 0 where
  pub lines : answer.text ≡ flat_map (row_change_text schema.store) saved.changes
  pub status : answer.status ≡ Done
  pub tables : IsSomeAnd answer.saved (IsPrintedTables schema saved.tables)

-- what is said of changes: that they are saved; or why they aren't
abbrev pub SavesSo : Schema → Result Saved SaveFault → Answer → Type 0
SavesSo schema (Ok saved) answer = SaysSaved schema saved answer
SavesSo schema (Err (Load fault)) answer = RefusesTables schema fault answer
SavesSo schema (Err (Refused index why)) answer = Says (refused_text index why) DocumentRefused answer
SavesSo schema (Err (Breach breach)) answer = Says (new_breach_text breach) DocumentRefused answer
SavesSo schema (Err (FreeReference place)) answer = Says (free_reference_text place) DocumentRefused answer
SavesSo schema (Err (Circular ring)) answer = Says (circular_text schema.store ring) DocumentRefused answer
SavesSo schema (Err Memory) answer = ⊥

-- what is given on tables and changes: what is said of what saving them answers
abbrev pub GivesSaved : Schema → Tables → List Change → Answer → Type 0
GivesSaved schema tables changes answer = (result : Result Saved SaveFault) × Saves schema tables changes result × SavesSo schema result answer

-- what is given on tables and a change document: the first place where it is of another shape; or what is given on the changes that it tells
abbrev pub GivesChanged : List ℕ → Schema → Tables → Answer → Type 0
GivesChanged list schema tables answer =
    ((pointer : List ℕ) × HoldsNoChanges schema.model list pointer × Says (change_shape_text pointer) DocumentRefused answer)
    ⊎ ((changes : List Change) × HoldsChanges schema.model list changes × GivesSaved schema tables changes answer)

-- what is given on a table document and a change document: the first place where the first is of another shape; or what is given on the tables that it tells
abbrev pub GivesSaving : List ℕ → List ℕ → Schema → Answer → Type 0
GivesSaving document list schema answer =
    ((pointer : List ℕ) × HoldsNoTables schema.store document pointer × Says (table_shape_text pointer) DocumentRefused answer)
    ⊎ ((tables : Tables) × HoldsTables schema.store document tables × GivesChanged list schema tables answer)
