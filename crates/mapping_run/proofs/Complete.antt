-- A run on good input, in which no read and no write failed, succeeds: all else that it could answer is excluded.
use Rattle.std.proofs.Common.{◌≡◌, ◌⊎◌, ◌≤◌, ℕ, zero, suc, List, [], ◌∷◌, length, Option, Some, Result, Ok, Err, MatchOption, inl, inr, refl, sym, subst, ◌∙◌, arith}
use Rattle.std.proofs.lemmas.Option.{none-some, same_Some}
use Rattle.emc_base.specs.Lists.{At}
use Rattle.emc_base.proofs.Lists.{at_once}
use Rattle.emc_files.specs.Files.{FileMap}
use Rattle.round_trip.specs.Words.{Schema, State, Tables}
use Rattle.texts.specs.command_texts.Texts.{usage_text}
use Rattle.mapping_core.specs.Rules.{IsReadSchema, Means}
use Rattle.mapping_core.specs.Words.{CanBeSaved, Change, IsAccepted, IsFirstLimit, LimitFault, LoadsLegal, PassesNoLimit, Saves, SavesUnlessMemory}
use Rattle.mapping_core.specs.declared.saving.saved.Saved.{Saved}
use Rattle.mapping_core.specs.declared.saving.fault.SaveFault.{SaveFault}
use Rattle.mapping_core.specs.declared.saving.fault.SaveFault.TheVariants as save
use Rattle.mapping_core.specs.declared.loading.LoadFault.{LoadFault}
use Rattle.mapping_core.specs.declared.loading.LoadFault.TheVariants as load
use Rattle.mapping_core.proofs.NotRefused.{has_list, has_state, has_tables, no_breach, no_failure, no_rule, no_table_breach, one_list, one_meaning, one_state, one_tables}
use Rattle.mapping_run.specs.declared.answers.answer.Answer.{Answer}
use Rattle.mapping_run.specs.declared.answers.command.Command.{Command}
use Rattle.mapping_run.specs.declared.answers.command.Command.TheVariants.{Check, Views, Store, Load, Save}
use Rattle.mapping_run.specs.declared.answers.status.Status.{Status}
use Rattle.mapping_run.specs.declared.answers.status.Status.TheVariants.{Done, MappingRefused, DocumentRefused, Usage, FileFault, SinkFault, Memory}
use Rattle.mapping_run.specs.answers.Gives.{GivesBy, GivesOn, GivesStored, GivesTables, HasDocuments, RefusesMapping, RefusesSchema}
use Rattle.mapping_run.specs.answers.Loading.{GivesLoaded, GivesState, TellsNoState}
use Rattle.mapping_run.specs.answers.Saving.{GivesChanged, GivesSaved, GivesSaving, SavesSo}
use Rattle.mapping_run.specs.answers.Says.{Says}
use Rattle.mapping_run.specs.Commands.{inputs_of}
use Rattle.mapping_run.specs.Completeness.{HasGoodInput, HasLegalData, HoldsAcceptedChanges, HoldsLegalState, HoldsStateTables, IsAnswerOf, IsComplete, IsQuiet, Prints}
use Rattle.mapping_run.specs.Gives.{GivesInputs}
use Rattle.mapping_run.specs.Inputs.{AreInputs, IsInput, IsLacking, largest_file}
use Rattle.mapping_run.specs.Runs.{Ends, Finishes, Leaves, Runs}
use Rattle.mapping_run.specs.World.{World}

-- the file of a place among those that are read is read
input_at : (held : Option FileMap) (names contents : List (List ℕ)) (i : ℕ) (name : List ℕ) → AreInputs held names contents → At names i name → (bytes : List ℕ) × IsInput held name bytes
input_at held [] contents i name all here = absurd (none-some name here)
input_at held (first ∷ names) [] i name all here = absurd all
input_at held (first ∷ names) (bytes ∷ contents) zero name all here = (bytes, subst (λ (one : List ℕ). IsInput held one bytes) (same_Some first name here) all.0)
input_at held (first ∷ names) (bytes ∷ contents) (suc i) name all here = input_at held names contents i name all.1 here

module _ (files : FileMap) where
  -- what stands at a name is one content
  same_content : (name one two : List ℕ) → files name ≡ Some one → files name ≡ Some two → one ≡ two
  same_content name one two first second = same_Some one two (sym first ∙ second)

  same_contents : (names one two : List (List ℕ)) → AreInputs (Some files) names one → AreInputs (Some files) names two → one ≡ two
  same_contents [] [] [] first second = refl
  same_contents [] [] (bytes ∷ two) first second = absurd second
  same_contents [] (bytes ∷ one) two first second = absurd first
  same_contents (name ∷ names) [] two first second = absurd first
  same_contents (name ∷ names) (bytes ∷ one) [] first second = absurd second
  same_contents (name ∷ names) (bytes ∷ one) (others ∷ two) first second =
      let heads = same_content name bytes others first.0.stands second.0.stands in
      let tails = same_contents names one two first.1 second.1 in
      λ k. heads k ∷ tails k

  -- a file that is read isn't missing or too large
  not_lacking : (name bytes text : List ℕ) → IsInput (Some files) name bytes → ¬ IsLacking (Some files) name text
  not_lacking name bytes text is (inl missing) = none-some bytes (sym missing.0 ∙ is.stands)
  not_lacking name bytes text is (inr (large, stands, more, told)) =
      let same : bytes ≡ large = same_content name bytes large is.stands stands in
      let fits : length large ≤ largest_file = subst (λ (content : List ℕ). length content ≤ largest_file) same is.fits in
      omega (arith, more, fits)

-- the law of saving: what is accepted is saved, unless memory ran out
abbrev pub SavesAccepted : Type 0
SavesAccepted = (schema : Schema) → IsAccepted schema → (tables : Tables) (state : State) (changes : List Change) → CanBeSaved schema tables state changes
    → (result : Result Saved SaveFault) → Saves schema tables changes result → SavesUnlessMemory schema tables changes result

module _ (contents : List (List ℕ)) (schema : Schema) where
  -- on a legal state its tables are printed
  of_state : (held_data : HoldsLegalState schema.model contents) (answer : Answer) → GivesBy Store contents schema answer → IsAnswerOf Store contents schema held_data answer
  of_state held_data answer (document, is_document, gives) =
      by_shape (subst (λ (bytes : List ℕ). GivesStored bytes schema answer) (at_once contents 3 document held_data.document is_document held_data.is_document) gives)
    where
      by_tables : GivesTables schema held_data.state answer → IsAnswerOf Store contents schema held_data answer
      by_tables (inl (breach, is, told)) = absurd (no_breach schema.model held_data.state held_data.legal breach is)
      by_tables (inr (legal, told)) = told

      by_shape : GivesStored held_data.document schema answer → IsAnswerOf Store contents schema held_data answer
      by_shape (inl (pointer, none, told)) = absurd (has_state schema.model held_data.document held_data.state held_data.held pointer none)
      by_shape (inr (state, holds, gives)) =
          by_tables (subst (λ (one : State). GivesTables schema one answer) (sym (one_state schema.model held_data.document held_data.state held_data.held state holds)) gives)

  -- on legal tables of a legal state, this
  of_tables : (held_data : HoldsStateTables schema contents) (answer : Answer) → GivesBy Load contents schema answer → IsAnswerOf Load contents schema held_data answer
  of_tables held_data answer (document, is_document, gives) =
      by_shape (subst (λ (bytes : List ℕ). GivesLoaded bytes schema answer) (at_once contents 3 document held_data.document is_document held_data.is_document) gives)
    where
      not_stateless : (fault : LoadFault) → LoadsLegal schema held_data.tables (Err fault) → ¬ TellsNoState schema fault answer.text
      not_stateless (load.Breach breach) loads told = told
      not_stateless (load.NoCase place) loads told = loads.none held_data.state held_data.is_legal held_data.has
      not_stateless (load.Illegal breach) loads told = loads.none held_data.state held_data.is_legal held_data.has
      not_stateless (load.Differs place held demanded) loads told = loads.none held_data.state held_data.is_legal held_data.has
      not_stateless load.Memory loads told = told

      by_loading : GivesState schema held_data.tables answer → IsAnswerOf Load contents schema held_data answer
      by_loading (inl (breach, is, told)) = absurd (no_table_breach schema.store held_data.tables held_data.legal breach is)
      by_loading (inr (legal, inl (fault, loads, told))) = absurd (not_stateless fault loads told.0)
      by_loading (inr (legal, inr (state, loaded, told))) = (state, loaded.only held_data.state held_data.is_legal held_data.has, told)

      by_shape : GivesLoaded held_data.document schema answer → IsAnswerOf Load contents schema held_data answer
      by_shape (inl (pointer, none, told)) = absurd (has_tables schema.store held_data.document held_data.tables held_data.held pointer none)
      by_shape (inr (tables, holds, gives)) =
          by_loading (subst (λ (one : Tables). GivesState schema one answer) (sym (one_tables schema.store held_data.document held_data.tables held_data.held tables holds)) gives)

  -- on legal tables of a legal state with changes that it accepts, what is saved
  of_changes : SavesAccepted → IsAccepted schema → (held_data : HoldsAcceptedChanges schema contents) (answer : Answer) → GivesBy Save contents schema answer
      → IsAnswerOf Save contents schema held_data answer
  of_changes saves_all accepted held_data answer (document, list, is_document, is_list, gives) =
      let P : List ℕ × List ℕ → Type 0 = λ of. GivesSaving of.0 of.1 schema answer in
      let documents = at_once contents 3 document held_data.document is_document held_data.is_document in
      let lists = at_once contents 4 list held_data.list is_list held_data.is_list in
      by_shape (subst P (λ k. (documents k, lists k)) gives)
    where
      never : (fault : SaveFault) → fault ≡ save.Memory → ¬ SavesSo schema (Err fault) answer
      never fault is says = let Says : SaveFault → Type 0 = λ one. SavesSo schema (Err one) answer in subst Says is says

      by_saving : GivesSaved schema held_data.tables held_data.changes answer → IsAnswerOf Save contents schema held_data answer
      by_saving (Ok saved, saves, says) = (saved, saves, says)
      by_saving (Err fault, saves, says) =
          absurd (never fault (saves_all schema accepted held_data.tables held_data.state held_data.changes held_data.can (Err fault) saves) says)

      by_list : GivesChanged held_data.list schema held_data.tables answer → IsAnswerOf Save contents schema held_data answer
      by_list (inl (pointer, none, told)) = absurd (has_list schema.model held_data.list held_data.changes held_data.told pointer none)
      by_list (inr (changes, holds, gives)) =
          by_saving (subst (λ (one : List Change). GivesSaved schema held_data.tables one answer)
          (sym (one_list schema.model held_data.list held_data.changes held_data.told changes holds)) gives)

      by_shape : GivesSaving held_data.document held_data.list schema answer → IsAnswerOf Save contents schema held_data answer
      by_shape (inl (pointer, none, told)) = absurd (has_tables schema.store held_data.document held_data.tables held_data.held pointer none)
      by_shape (inr (tables, holds, gives)) =
          by_list (subst (λ (one : Tables). GivesChanged held_data.list schema one answer)
          (sym (one_tables schema.store held_data.document held_data.tables held_data.held tables holds)) gives)

  -- so each command gives by an accepted mapping
  by_command : SavesAccepted → IsAccepted schema → (command : Command) (held_data : HasLegalData command contents schema) (answer : Answer) → GivesBy command contents schema answer
      → IsAnswerOf command contents schema held_data answer
  by_command saves_all accepted Check held_data answer told = told
  by_command saves_all accepted Views held_data answer told = told
  by_command saves_all accepted Store held_data answer gives = of_state held_data answer gives
  by_command saves_all accepted Load held_data answer gives = of_tables held_data answer gives
  by_command saves_all accepted Save held_data answer gives = of_changes saves_all accepted held_data answer gives

  -- and that is done
  is_done : (command : Command) (held_data : HasLegalData command contents schema) (answer : Answer) → IsAnswerOf command contents schema held_data answer → answer.status ≡ Done
  is_done Check held_data answer is = is.1
  is_done Views held_data answer is = is.1
  is_done Store held_data answer is = is.1
  is_done Load held_data answer is = is.2.1
  is_done Save held_data answer is = is.2.status

-- of a schema that passes no limit none is told
abbrev pub TellsNoLimit : Type 0
TellsNoLimit = (schema : Schema) → PassesNoLimit schema → (fault : LimitFault) → ¬ IsFirstLimit schema (Some fault)

module _ (no_limit : TellsNoLimit) (saves_all : SavesAccepted) (words : List (List ℕ)) (before after : World) (good : HasGoodInput words before.held) (quiet : IsQuiet before after) (answer : Answer) where
  abbrev IsGoodAnswer : Type 0
  IsGoodAnswer = IsAnswerOf good.command good.contents good.schema good.held_data answer

  -- what documents mean that are accepted isn't refused
  not_refused : (schema : Schema) → good.schema ≡ schema → ¬ RefusesSchema schema answer
  not_refused schema same refuses = by (subst (λ (one : Schema). RefusesSchema one answer) (sym same) refuses)
    where
      by : ¬ RefusesSchema good.schema answer
      by (inl (fault, first, told)) = no_limit good.schema good.within fault first
      by (inr (within, (failure, is, told))) = no_failure good.schema good.round_trips failure is

  -- on the contents that were read
  on_contents : GivesOn good.command good.contents answer → IsGoodAnswer
  on_contents gives = by gives.holds
    where
      their : HasDocuments good.contents (λ csdl ssdl msl. Means csdl ssdl msl good.schema)
      their = good.documents

      means : Means gives.csdl gives.ssdl gives.msl good.schema
      means =
          let csdl = at_once good.contents 0 their.csdl gives.csdl their.at_csdl gives.at_csdl in
          let ssdl = at_once good.contents 1 their.ssdl gives.ssdl their.at_ssdl gives.at_ssdl in
          let msl = at_once good.contents 2 their.msl gives.msl their.at_msl gives.at_msl in
          let P : List ℕ × List ℕ × List ℕ → Type 0 = λ of. Means of.0 of.1 of.2 good.schema in
          subst P (λ k. (csdl k, ssdl k, msl k)) their.holds

      by : (RefusesMapping gives.csdl gives.ssdl gives.msl answer
          ⊎ ((schema : Schema) × IsReadSchema gives.csdl gives.ssdl gives.msl schema × IsAccepted schema × GivesBy good.command good.contents schema answer)) → IsGoodAnswer
      by (inl (inl (fault, is, told))) = absurd (no_rule gives.csdl gives.ssdl gives.msl good.schema means fault is)
      by (inl (inr (schema, also, refuses))) = absurd (not_refused schema (one_meaning gives.csdl gives.ssdl gives.msl good.schema schema means also) refuses)
      by (inr (schema, read, accepted, given)) =
          let same = one_meaning gives.csdl gives.ssdl gives.msl good.schema schema means read.means in
          by_command good.contents good.schema saves_all (subst IsAccepted (sym same) accepted) good.command good.held_data answer
          (subst (λ (one : Schema). GivesBy good.command good.contents one answer) (sym same) given)

  -- on its input files
  on_inputs : GivesInputs before.held good.command (inputs_of good.command words) answer → IsGoodAnswer
  on_inputs (inl ((name, first, lacking), told, unsaved)) =
      let here = input_at before.held (inputs_of good.command words) good.contents first.i name good.are_inputs first.named in
      let P : Option FileMap → Type 0 = λ held. IsInput held name here.0 × IsLacking held name answer.text in
      let both : P (Some good.files) = subst P good.told (here.1, lacking) in
      absurd (not_lacking good.files name here.0 answer.text both.0 both.1)
  on_inputs (inr (contents, are, gives)) =
      let P : Option FileMap → Type 0 = λ held. AreInputs held (inputs_of good.command words) contents × AreInputs held (inputs_of good.command words) good.contents in
      let both : P (Some good.files) = subst P good.told (are, good.are_inputs) in
      let same = same_contents good.files (inputs_of good.command words) contents good.contents both.0 both.1 in
      on_contents (subst (λ (read : List (List ℕ)). GivesOn good.command read answer) same gives)

  -- so the answer is good, and the files are as it leaves them
  good_answer : (may_fail : List ℕ → Type 0) → Ends may_fail words before.held before.file_faults after.file_faults after.held answer
      → IsGoodAnswer × Leaves words answer before.held after.held
  good_answer may_fail (inl (same, gives, leaves)) =
      let P : Option Command → Type 0 = λ command. MatchOption command (Says usage_text Usage answer) (λ one. GivesInputs before.held one (inputs_of one words) answer) in
      let on : P (Some good.command) = subst P good.is_command gives in
      (on_inputs on, leaves)
  good_answer may_fail (inr (rose, breaks)) = absurd (quiet.files rose)

module _ (no_limit : TellsNoLimit) (saves_all : SavesAccepted) (may_fail : List ℕ → Type 0) (words : List (List ℕ)) (before after : World) where
  -- a run that finished with a status finished well
  finished : (good : HasGoodInput words before.held) → IsQuiet before after → (status : Status) → Finishes may_fail words before after status → (status ≡ Done) × Prints words before after good
  finished good quiet status finishes =
      let is = good_answer no_limit saves_all words before after good quiet finishes.answer may_fail finishes.ends in (
        sym finishes.status_is ∙ is_done good.contents good.schema good.command good.held_data finishes.answer is.0,
        record { answer = finishes.answer; is = is.0; written = finishes.written; leaves = is.1 },
      )

  other : (good : HasGoodInput words before.held) → IsQuiet before after → (status : Status) → ¬ (status ≡ Done) → ¬ Finishes may_fail words before after status
  other good quiet status not_done finishes = not_done (finished good quiet status finishes).0

  -- what it left by its status is what it has to
  pub complete : (status : Status) → Runs may_fail words before after status → IsComplete words before after status
  complete Done runs good quiet = (finished good quiet Done runs).1
  complete MappingRefused runs good quiet = other good quiet MappingRefused (λ same. let never : MappingRefused ≡ Done = same in cc) runs
  complete DocumentRefused runs good quiet = other good quiet DocumentRefused (λ same. let never : DocumentRefused ≡ Done = same in cc) runs
  complete Usage runs good quiet = other good quiet Usage (λ same. let never : Usage ≡ Done = same in cc) runs
  complete FileFault runs good quiet = other good quiet FileFault (λ same. let never : FileFault ≡ Done = same in cc) runs
  complete SinkFault runs good quiet = quiet.sink runs.cause
  complete Memory runs good quiet = tt
