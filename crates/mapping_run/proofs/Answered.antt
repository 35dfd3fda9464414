-- What the words of a command give and leave, by what was read, and by whether what is saved could be put into its file.
use Rattle.std.proofs.Common.{◌≡◌, ◌⊎◌, ◌≤◌, ℕ, List, [], ◌∷◌, length, ◌==◌, Bool, true, false, Option, Some, None, option_and_then, Result, Ok, Err, IfOk, IsSomeAnd, MatchOption, if◌then◌else◌, inl, inr, refl, sym, subst, ◌∙◌, arith}
use Rattle.std.proofs.lemmas.List.{length-take-le}
use Rattle.std.proofs.lemmas.Option.{none-some, same_Some}
use Rattle.std.proofs.lemmas.Bool.Decides.{nat_tests}
use Rattle.emc_base.specs.Faults.{RoseOrStands}
use Rattle.emc_base.specs.declared.memory.Memory.{Memory}
use Rattle.emc_files.specs.Files.{FileMap, Replaces}
use Rattle.emc_files.specs.declared.files.ReplaceFault.TheVariants.{Failed}
use Rattle.mapping_run.specs.declared.answers.answer.Answer.{Answer}
use Rattle.mapping_run.specs.declared.answers.answer.Halt.TheVariants.{Tells}
use Rattle.mapping_run.specs.declared.answers.status.Status.TheVariants.{Usage}
use Rattle.mapping_run.specs.declared.answers.command.Command.{Command}
use Rattle.mapping_run.specs.declared.answers.command.Command.TheVariants.{Check, Views, Store, Load, Save}
use Rattle.mapping_run.specs.answers.Commands.{input_count, name_count}
use Rattle.mapping_run.specs.Commands.{command_named, command_of, inputs_of, output_of, with_names}
use Rattle.mapping_run.specs.Inputs.{AreInputs}
use Rattle.mapping_run.specs.answers.Gives.{GivesOn}
use Rattle.mapping_run.specs.answers.Says.{Says}
use Rattle.mapping_run.specs.Gives.{Gives, GivesInputs}
use Rattle.mapping_run.specs.RunSteps.{EndsOrStops, GivesOrTells, ReadsInputs, SavesAt}
use Rattle.mapping_run.specs.Runs.{Breaks, Ends, FailsToGive, FailsToSave, Leaves, LeavesAt}
use Rattle.texts.specs.command_texts.Texts.{usage_text}
use Rattle.mapping_run.proofs.FilesRead.{as_many}

-- a command with its names has as many as it counts
counted : (count : ℕ) (named : Option Command) (command : Command) → option_and_then (with_names count) named ≡ Some command → count ≡ name_count command
counted count None command is = absurd (none-some command is)
counted count (Some one) command is = by (count == name_count one) refl is
  where
    by : (many : Bool) → (count == name_count one) ≡ many → (if many then Some one else None) ≡ Some command → count ≡ name_count command
    by true holds some =
        let same : count ≡ name_count one = grind (arith, nat_tests) in
        let Counts : Command → Type 0 = λ c. count ≡ name_count c in subst Counts (same_Some one command some) same
    by false _ some = absurd (none-some command some)

-- among them the input files
inputs_among : (command : Command) → input_count command ≤ name_count command
inputs_among Check = omega arith
inputs_among Views = omega arith
inputs_among Store = omega arith
inputs_among Load = omega arith
inputs_among Save = omega arith

-- a command has as many input files as it counts
counted_inputs : (words : List (List ℕ)) (command : Command) → command_of words ≡ Some command → length (inputs_of command words) ≡ input_count command
counted_inputs [] command is = absurd (none-some command is)
counted_inputs (word ∷ names) command is =
    let many : ℕ → Type 0 = λ count. input_count command ≤ count in
    length-take-le (input_count command) names (subst many (sym (counted (length names) (command_named word) command is)) (inputs_among command))

-- and so many contents
pub counted_contents : (held : Option FileMap) (words contents : List (List ℕ)) (command : Command) → command_of words ≡ Some command
    → AreInputs held (inputs_of command words) contents → length contents ≡ input_count command
counted_contents held words contents command is all = as_many held (inputs_of command words) contents all ∙ counted_inputs words command is

module _ (may_fail : List ℕ → Type 0) (words : List (List ℕ)) (held : Option FileMap) (before now : ℕ) (command : Command) where
  -- all input files were read, and this is what the command answers on them, unless memory ran out
  pub gives_result : (contents : List (List ℕ)) (result : Result Answer Memory) → now ≡ before → AreInputs held (inputs_of command words) contents
      → IfOk result (GivesOn command contents) → IfOk result (GivesOrTells may_fail held before now command words)
  gives_result contents (Ok answer) same all given = inl (same, inr (contents, all, given))
  gives_result contents (Err memory) same all given = tt

  -- one of them wasn't, and this is told
  pub gives_unread : (answer : Answer) → ReadsInputs may_fail held before now (inputs_of command words) (Err (Tells answer)) → GivesOrTells may_fail held before now command words answer
  gives_unread answer (inl lacking) = inl (lacking.0, inl lacking.1)
  gives_unread answer (inr failed) = inr failed

-- what is there is something
some_of : {A : Type 0} {P : A → Type 0} (found : Option A) → IsSomeAnd found P → (x : A) × (found ≡ Some x) × P x
some_of (Some x) holds = (x, refl, holds)
some_of None holds = absurd holds

module _ (may_fail : List ℕ → Type 0) (words : List (List ℕ)) (held left : Option FileMap) (command : Command) (is : command_of words ≡ Some command) where
  -- what the command gives, leaves and fails in is what the words do
  given_by : (answer : Answer) → GivesInputs held command (inputs_of command words) answer → Gives words held answer
  given_by answer given =
      let P : Option Command → Type 0 = λ found. MatchOption found (Says usage_text Usage answer) (λ one. GivesInputs held one (inputs_of one words) answer) in
      subst P (sym is) given

  left_by : (answer : Answer) → LeavesAt (output_of command words) answer held left → Leaves words answer held left
  left_by answer leaves =
      let P : Option Command → Type 0 = λ found. MatchOption found (left ≡ held) (λ one. LeavesAt (output_of one words) answer held left) in
      subst P (sym is) leaves

  breaks_by : (answer : Answer) → FailsToGive may_fail words held left command answer ⊎ FailsToSave may_fail words held left command answer
      → Breaks may_fail words held left answer
  breaks_by answer fails =
      let P : Option Command → Type 0 = λ found.
      MatchOption found ⊥ (λ one. FailsToGive may_fail words held left one answer ⊎ FailsToSave may_fail words held left one answer) in
      subst P (sym is) fails

  -- the command writes no file
  pub ends_unsaved : (before now : ℕ) (answer : Answer) → output_of command words ≡ None → left ≡ held → GivesOrTells may_fail held before now command words answer
      → Ends may_fail words held before now left answer
  ends_unsaved before now answer none same (inl gives) =
      let At : Option (List ℕ) → Type 0 = λ name. LeavesAt name answer held left in
      inl (gives.0, given_by answer gives.1, left_by answer (subst At (sym none) same))
  ends_unsaved before now answer none same (inr fails) = inr (fails.0, breaks_by answer (inl (fails.1, same)))

  module _ (before mid now : ℕ) (name : List ℕ) (named : output_of command words ≡ Some name) (answer : Answer) where
    -- what the command gives was saved, or could not be
    ends_given : mid ≡ before → GivesInputs held command (inputs_of command words) answer → (printed : Answer) → SavesAt may_fail held left mid now name answer (Ok printed)
        → Ends may_fail words held before now left printed
    ends_given same gives printed (inl saved) =
        let At : Option (List ℕ) → Type 0 = λ place. LeavesAt place answer held left in
        subst (Ends may_fail words held before now left) (sym saved.1)
        (inl (saved.0 ∙ same, given_by answer gives, left_by answer (subst At (sym named) saved.2)))
    ends_given same gives printed (inr failed) =
        let some = some_of answer.saved failed.3 in
        let Rose : ℕ → Type 0 = λ count. RoseOrStands count now in
        inr (
          subst Rose same failed.0,
          breaks_by printed (inr (record {
            given = answer;
            gives = gives;
            name = name;
            named = named;
            text = some.0;
            saves = some.1;
            allowed = failed.1;
            says = failed.2;
            leaves = some.2;
          })),
        )

    -- nothing is saved where an input file could not be read
    ends_told : RoseOrStands before mid → FailsToGive may_fail words held held command answer → (printed : Answer) → SavesAt may_fail held left mid now name answer (Ok printed)
        → Ends may_fail words held before now left printed
    ends_told rose fails printed (inl saved) =
        let Left : Option (List ℕ) → Type 0 = λ text. MatchOption text (left ≡ held) (λ bytes. Replaces held left name bytes (Ok tt)) in
        let same : left ≡ held = subst Left fails.0.2 saved.2 in
        let Rose : ℕ → Type 0 = λ count. RoseOrStands before count in
        inr (subst Rose (sym saved.0) rose, subst (Breaks may_fail words held left) (sym saved.1) (breaks_by answer (inl (fails.0, same))))
    ends_told rose fails printed (inr failed) =
        let Put : Option (List ℕ) → Type 0 = λ text. IsSomeAnd text (λ bytes. Replaces held left name bytes (Err Failed)) in
        let never : ⊥ = subst Put fails.0.2 failed.3 in absurd never

    -- so it ends, unless memory ran out
    pub ends_saved : GivesOrTells may_fail held before mid command words answer → (result : Result Answer Memory) → SavesAt may_fail held left mid now name answer result
        → EndsOrStops may_fail held left before now words result
    ends_saved gives (Err memory) saves = saves
    ends_saved (inl gives) (Ok printed) saves = ends_given gives.0 gives.1 printed saves
    ends_saved (inr fails) (Ok printed) saves = ends_told fails.0 (fails.1, refl) printed saves
