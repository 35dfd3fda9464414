-- What was answered and what was written make a run.
use Rattle.std.proofs.Common.{◌≡◌, ◌≢◌, ◌⊎◌, ℕ, List, [], ◌∷◌, ◌++◌, Option, Some, None, MatchOption, Result, Ok, Err, option_map, inl, inr, refl, sym, ap, ◌∙◌, subst, ◌==◌, length, take, true, false, arith}
use Rattle.std.proofs.lemmas.Bool.Decides.{nat_tests}
use Rattle.std.specs.Bool.{⊤}
use Rattle.std.proofs.lemmas.List.{append-nil}
use Rattle.emc_files.specs.Sink.{CountsPut, Puts}
use Rattle.emc_files.specs.declared.sink.SinkFault.{SinkFault as SinkError}
use Rattle.emc_files.specs.declared.sink.SinkFault.TheVariants.{Failed}
use Rattle.emc_files.specs.declared.sink.SinkFault.TheVariants as sink
use Rattle.emc_files.specs.Files.{FileMap, Replaces}
use Rattle.emc_files.specs.declared.files.ReplaceFault.TheVariants as replace
use Rattle.mapping_core.specs.Rules.{IsReadSchema}
use Rattle.mapping_core.specs.Words.{IsAccepted, Schema, State, Tables}
use Rattle.mapping_core.specs.declared.saving.saved.Saved.{Saved}
use Rattle.mapping_core.specs.declared.saving.fault.SaveFault.{SaveFault}
use Rattle.mapping_core.specs.declared.loading.LoadFault.{LoadFault}
use Rattle.mapping_core.specs.declared.loading.LoadFault.TheVariants as load
use Rattle.mapping_core.specs.declared.saving.fault.SaveFault.TheVariants as save
use Rattle.mapping_run.specs.declared.answers.answer.Answer.{Answer}
use Rattle.mapping_run.specs.declared.answers.status.Status.{Status}
use Rattle.mapping_run.specs.declared.answers.status.Status.TheVariants.{Done, MappingRefused, DocumentRefused, Usage, FileFault, SinkFault, Memory}
use Rattle.mapping_run.specs.declared.answers.command.Command.{Command}
use Rattle.mapping_run.specs.declared.answers.command.Command.TheVariants.{Check, Views, Store, Load, Save}
use Rattle.mapping_run.specs.Commands.{command_of, inputs_of, output_of}
use Rattle.mapping_run.specs.answers.Gives.{GivesBy, GivesOn, GivesStored, GivesTables, RefusesMapping, RefusesSchema}
use Rattle.mapping_run.specs.answers.Loading.{GivesLoaded, GivesState, RefusesTables}
use Rattle.mapping_run.specs.answers.Saving.{GivesChanged, GivesSaving, SavesSo}
use Rattle.mapping_run.specs.answers.Says.{Says}
use Rattle.mapping_run.specs.Gives.{Gives, GivesInputs}
use Rattle.mapping_run.specs.Runs.{BreaksOff, Ends, FailsToGive, FailsToSave, Finishes, GivesUp, LeavesAt, LeavesGiven, Runs}
use Rattle.texts.specs.command_texts.Texts.{usage_text}
use Rattle.mapping_run.specs.World.{World}

-- a status of a whole text
abbrev IsOfText : Status → Type 0
IsOfText Done = ⊤
IsOfText MappingRefused = ⊤
IsOfText DocumentRefused = ⊤
IsOfText Usage = ⊤
IsOfText FileFault = ⊤
IsOfText SinkFault = ⊥
IsOfText Memory = ⊥

module _ (answer : Answer) where
  of_schema : (schema : Schema) → RefusesSchema schema answer → IsOfText answer.status
  of_schema schema (inl limit) = subst IsOfText (sym limit.2.1) cc
  of_schema schema (inr fails) = subst IsOfText (sym fails.1.2.1) cc

  of_mapping : (csdl ssdl msl : List ℕ) → RefusesMapping csdl ssdl msl answer → IsOfText answer.status
  of_mapping csdl ssdl msl (inl told) = subst IsOfText (sym told.2.1) cc
  of_mapping csdl ssdl msl (inr meant) = of_schema meant.0 meant.2

  of_tables : (schema : Schema) (state : State) → GivesTables schema state answer → IsOfText answer.status
  of_tables schema state (inl breach) = subst IsOfText (sym breach.2.1) cc
  of_tables schema state (inr stored) = subst IsOfText (sym stored.1.1) cc

  of_stored : (entities : List ℕ) (schema : Schema) → GivesStored entities schema answer → IsOfText answer.status
  of_stored entities schema (inl shape) = subst IsOfText (sym shape.2.1) cc
  of_stored entities schema (inr told) = of_tables schema told.0 told.2

  of_state : (schema : Schema) (tables : Tables) → GivesState schema tables answer → IsOfText answer.status
  of_state schema tables (inl breach) = subst IsOfText (sym breach.2.1) cc
  of_state schema tables (inr (legal, inl refused)) = subst IsOfText (sym refused.2.1) cc
  of_state schema tables (inr (legal, inr told)) = subst IsOfText (sym told.2.1) cc

  of_loaded : (document : List ℕ) (schema : Schema) → GivesLoaded document schema answer → IsOfText answer.status
  of_loaded document schema (inl shape) = subst IsOfText (sym shape.2.1) cc
  of_loaded document schema (inr told) = of_state schema told.0 told.2

  of_refused : (schema : Schema) (fault : LoadFault) → RefusesTables schema fault answer → IsOfText answer.status
  of_refused schema (load.Breach breach) says = subst IsOfText (sym says.1) cc
  of_refused schema (load.NoCase place) says = subst IsOfText (sym says.1) cc
  of_refused schema (load.Illegal breach) says = subst IsOfText (sym says.1) cc
  of_refused schema (load.Differs place held demanded) says = subst IsOfText (sym says.1) cc
  of_refused schema load.Memory says = absurd says

  of_saved : (schema : Schema) (result : Result Saved SaveFault) → SavesSo schema result answer → IsOfText answer.status
  of_saved schema (Ok saved) says = subst IsOfText (sym says.status) cc
  of_saved schema (Err (save.Load fault)) says = of_refused schema fault says
  of_saved schema (Err (save.Refused index why)) says = subst IsOfText (sym says.1) cc
  of_saved schema (Err (save.Breach breach)) says = subst IsOfText (sym says.1) cc
  of_saved schema (Err (save.FreeReference place)) says = subst IsOfText (sym says.1) cc
  of_saved schema (Err (save.Circular ring)) says = subst IsOfText (sym says.1) cc
  of_saved schema (Err save.Memory) says = absurd says

  of_changed : (list : List ℕ) (schema : Schema) (tables : Tables) → GivesChanged list schema tables answer → IsOfText answer.status
  of_changed list schema tables (inl shape) = subst IsOfText (sym shape.2.1) cc
  of_changed list schema tables (inr told) = of_saved schema told.2.0 told.2.2

  of_saving : (document list : List ℕ) (schema : Schema) → GivesSaving document list schema answer → IsOfText answer.status
  of_saving document list schema (inl shape) = subst IsOfText (sym shape.2.1) cc
  of_saving document list schema (inr told) = of_changed list schema told.0 told.2

  of_accepted : (command : Command) (contents : List (List ℕ)) (schema : Schema) → GivesBy command contents schema answer → IsOfText answer.status
  of_accepted Check contents schema gives = subst IsOfText (sym gives.1) cc
  of_accepted Views contents schema gives = subst IsOfText (sym gives.1) cc
  of_accepted Store contents schema gives = of_stored gives.0 schema gives.2
  of_accepted Load contents schema gives = of_loaded gives.0 schema gives.2
  of_accepted Save contents schema gives = of_saving gives.0 gives.1 schema gives.4

  of_documents : (command : Command) (contents : List (List ℕ)) (csdl ssdl msl : List ℕ)
      → RefusesMapping csdl ssdl msl answer ⊎ ((schema : Schema) × IsReadSchema csdl ssdl msl schema × IsAccepted schema × GivesBy command contents schema answer)
      → IsOfText answer.status
  of_documents command contents csdl ssdl msl (inl refuses) = of_mapping csdl ssdl msl refuses
  of_documents command contents csdl ssdl msl (inr accepted) = of_accepted command contents accepted.0 accepted.3

  of_command : (command : Command) (contents : List (List ℕ)) → GivesOn command contents answer → IsOfText answer.status
  of_command command contents gives = of_documents command contents gives.csdl gives.ssdl gives.msl gives.holds

  of_inputs : (held : Option FileMap) (command : Command) (names : List (List ℕ)) → GivesInputs held command names answer → IsOfText answer.status
  of_inputs held command names (inl lacking) = subst IsOfText (sym lacking.1) cc
  of_inputs held command names (inr read) = of_command command read.0 read.2

  of_words : (words : List (List ℕ)) (held : Option FileMap) (command : Option Command)
      → MatchOption command (Says usage_text Usage answer) (λ one. GivesInputs held one (inputs_of one words) answer) → IsOfText answer.status
  of_words words held None says = subst IsOfText (sym says.1) cc
  of_words words held (Some command) gives = of_inputs held command (inputs_of command words) gives

  of_break : (may_fail : List ℕ → Type 0) (words : List (List ℕ)) (held left : Option FileMap) (command : Option Command)
      → MatchOption command ⊥ (λ one. FailsToGive may_fail words held left one answer ⊎ FailsToSave may_fail words held left one answer) → IsOfText answer.status
  of_break may_fail words held left None breaks = absurd breaks
  of_break may_fail words held left (Some command) (inl fails) = subst IsOfText (sym fails.0.1) cc
  of_break may_fail words held left (Some command) (inr fails) = subst IsOfText (sym fails.says.1) cc

  -- what ends, ends with a text
  of_ends : (may_fail : List ℕ → Type 0) (words : List (List ℕ)) (held : Option FileMap) (before now : ℕ) (left : Option FileMap)
      → Ends may_fail words held before now left answer → IsOfText answer.status
  of_ends may_fail words held before now left (inl gives) = of_words words held (command_of words) gives.1
  of_ends may_fail words held before now left (inr breaks) = of_break may_fail words held left (command_of words) breaks.1

-- a file that could not be replaced is as it was, or as if it had been
failed_left : (held left : Option FileMap) (name text : List ℕ) → Replaces held left name text (Err replace.Failed) → (left ≡ held) ⊎ Replaces held left name text (Ok tt)
failed_left None left name text same = inl same
failed_left (Some old) left name text (inl same) = inl same
failed_left (Some old) left name text (inr put) = inr put

module _ (may_fail : List ℕ → Type 0) (words : List (List ℕ)) (held left : Option FileMap) (answer : Answer) where
  -- so the files are as they were, or as what was given leaves them
  left_failed : (command : Command) → command_of words ≡ Some command → FailsToSave may_fail words held left command answer → LeavesGiven words held left
  left_failed command is fails = by (failed_left held left fails.name fails.text fails.leaves)
    where
      gives : Gives words held fails.given
      gives =
          let P : Option Command → Type 0 = λ found. MatchOption found (Says usage_text Usage fails.given) (λ one. GivesInputs held one (inputs_of one words) fails.given) in
          subst P (sym is) fails.gives

      by : (left ≡ held) ⊎ Replaces held left fails.name fails.text (Ok tt) → LeavesGiven words held left
      by (inl same) = inl same
      by (inr put) =
          let Text : Option (List ℕ) → Type 0 = λ text. MatchOption text (left ≡ held) (λ bytes. Replaces held left fails.name bytes (Ok tt)) in
          let At : Option (List ℕ) → Type 0 = λ name. LeavesAt name fails.given held left in
          let By : Option Command → Type 0 = λ found. MatchOption found (left ≡ held) (λ one. LeavesAt (output_of one words) fails.given held left) in
          inr (fails.given, gives, subst By (sym is) (subst At (sym fails.named) (subst Text (sym fails.saves) put)))

  left_broken : (found : Option Command) → command_of words ≡ found
      → MatchOption found ⊥ (λ command. FailsToGive may_fail words held left command answer ⊎ FailsToSave may_fail words held left command answer) → LeavesGiven words held left
  left_broken None is breaks = absurd breaks
  left_broken (Some command) is (inl fails) = inl fails.1
  left_broken (Some command) is (inr fails) = left_failed command is fails

  left_given : (before now : ℕ) → Ends may_fail words held before now left answer → LeavesGiven words held left
  left_given before now (inl ends) = inr (answer, ends.1, ends.2)
  left_given before now (inr broken) = left_broken (command_of words) refl broken.1

module _ (may_fail : List ℕ → Type 0) (words : List (List ℕ)) (before after : World) where
  -- nothing was written, since memory ran out before anything was done to the files, or in the sink
  pub stopped : after.held ≡ before.held → after.written ≡ before.written → after.sink_faults ≡ before.sink_faults → GivesUp may_fail words before after
  stopped same written quiet = record { written = written; quiet = quiet; leaves = inl same }

  unwritten : (answer : Answer) → Ends may_fail words before.held before.file_faults after.file_faults after.held answer
      → after.written ≡ before.written → after.sink_faults ≡ before.sink_faults → GivesUp may_fail words before after
  unwritten answer ends written quiet =
      record { written = written; quiet = quiet; leaves = left_given may_fail words before.held after.held answer before.file_faults after.file_faults ends }

module _ (may_fail : List ℕ → Type 0) (words : List (List ℕ)) (before after : World) where
  -- what finishes, finishes with a text
  of_finish : (status : Status) → Finishes may_fail words before after status → IsOfText status
  of_finish status finishes =
      subst IsOfText finishes.status_is (of_ends finishes.answer may_fail words before.held before.file_faults after.file_faults after.held finishes.ends)

  -- a whole text was written
  runs_whole : (status : Status) → Finishes may_fail words before after status → Runs may_fail words before after status
  runs_whole Done finishes = finishes
  runs_whole MappingRefused finishes = finishes
  runs_whole DocumentRefused finishes = finishes
  runs_whole Usage finishes = finishes
  runs_whole FileFault finishes = finishes
  runs_whole SinkFault finishes = absurd (of_finish SinkFault finishes)
  runs_whole Memory finishes = absurd (of_finish Memory finishes)

-- nothing more is nothing new
pub nothing_more : (written : Option (List ℕ)) (text : List ℕ) → text ≡ [] → written ≡ option_map (λ bytes. bytes ++ text) written
nothing_more None text empty = refl
nothing_more (Some bytes) text empty = ap Some (sym (append-nil bytes) ∙ ap (λ more. bytes ++ more) (sym empty))

-- a text of no bytes is empty
is_nothing : (text : List ℕ) → true ≡ (length text == 0) → text ≡ []
is_nothing [] empty = refl
is_nothing (byte ∷ rest) empty = let no : ⊥ = grind (arith, nat_tests) in absurd no

-- a text of some bytes isn't
pub not_nothing : (text : List ℕ) → false ≡ (length text == 0) → text ≢ []
not_nothing [] some empty = cc
not_nothing (byte ∷ rest) some empty = cc

module _ (may_fail : List ℕ → Type 0) (words : List (List ℕ)) (before after : World) (answer : Answer) (printed : List ℕ)
    (ends : Ends may_fail words before.held before.file_faults after.file_faults after.held answer) (printed_is : printed ≡ answer.text) where
  -- the text that was printed is the answer's
  pub all_written : after.sink_faults ≡ before.sink_faults → after.written ≡ option_map (λ bytes. bytes ++ printed) before.written
      → Runs may_fail words before after answer.status
  all_written quiet written = runs_whole may_fail words before after answer.status (record {
    answer = answer;
    status_is = refl;
    ends = ends;
    written = written ∙ ap (λ more. option_map (λ bytes. bytes ++ more) before.written) printed_is;
    quiet = quiet;
  })

  -- an empty text needs no writing
  pub none_written : true ≡ (length printed == 0) → after.sink_faults ≡ before.sink_faults → after.written ≡ before.written → Runs may_fail words before after answer.status
  none_written empty quiet same = runs_whole may_fail words before after answer.status (record {
    answer = answer;
    status_is = refl;
    ends = ends;
    written = same ∙ nothing_more before.written answer.text (sym printed_is ∙ is_nothing printed empty);
    quiet = quiet;
  })

  -- the sink failed after the first so many bytes of the answer's text, which isn't empty
  pub broken_off : answer.text ≢ [] → (fault : SinkError) → fault ≡ Failed → Puts before.written after.written printed (Err fault)
      → CountsPut before.sink_faults after.sink_faults (Err fault) → BreaksOff may_fail words before after
  broken_off some fault is puts counts =
      let Put : SinkError → Type 0 = λ one. Puts before.written after.written printed (Err one) × CountsPut before.sink_faults after.sink_faults (Err one) in
      let failed : Put Failed = subst Put is (puts, counts) in
      record {
        answer = answer;
        count = failed.0.0;
        not_empty = some;
        ends = ends;
        written = failed.0.1 ∙ ap (λ text. option_map (λ bytes. bytes ++ take failed.0.0 text) before.written) printed_is;
        cause = failed.1;
      }

  -- memory ran out in the sink
  pub gave_up : (fault : SinkError) → fault ≡ sink.Memory → Puts before.written after.written printed (Err fault)
      → CountsPut before.sink_faults after.sink_faults (Err fault) → GivesUp may_fail words before after
  gave_up fault is puts counts =
      let Put : SinkError → Type 0 = λ one. Puts before.written after.written printed (Err one) × CountsPut before.sink_faults after.sink_faults (Err one) in
      let none : Put sink.Memory = subst Put is (puts, counts) in
      unwritten may_fail words before after answer ends none.0 none.1
