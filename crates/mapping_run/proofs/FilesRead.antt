-- Reading the input files of a command, one after the other.
use Rattle.std.proofs.Common.{◌≡◌, ◌+◌, ◌<◌, ◌≤◌, ℕ, zero, suc, List, [], ◌∷◌, ◌++◌, length, take, Option, Some, None, Result, Ok, Err, IsSomeAnd, IsErrAnd, inl, inr, refl, sym, subst, arith}
use Rattle.emc_files.specs.declared.files.ReadFault.{ReadFault}
use Rattle.emc_files.specs.declared.files.ReadFault.TheVariants as fault
use Rattle.emc_files.specs.Files.{FileMap, CountsRead, Tells}
use Rattle.emc_base.specs.Lists.{At}
use Rattle.emc_base.proofs.Loops.{take_item}
use Rattle.mapping_run.specs.declared.answers.answer.Halt.{Halt}
use Rattle.mapping_run.specs.declared.answers.answer.Halt.TheVariants as halt
use Rattle.mapping_run.specs.Inputs.{AreInputs, IsFirstUnread, IsInput, StandsAt, largest_file}
use Rattle.mapping_run.specs.RunSteps.{ReadsInput, ReadsInputs, TellsReadFault}

-- a list that is longer than that
longer : (n : ℕ) → (bytes : List ℕ) × (n < length bytes)
longer zero = (0 ∷ [], omega arith)
longer (suc n) = let rest = longer n in (0 ∷ rest.0, omega arith)

-- where a file is missing, nothing stands at its name
missing_at : (held : Option FileMap) (name : List ℕ) → Tells held name largest_file (Err fault.Missing) → StandsAt held name None
missing_at None name tells = cc
missing_at (Some files) name tells = tells

-- where it is too large, some content stands there that is
large_at : (held : Option FileMap) (name : List ℕ) → Tells held name largest_file (Err fault.TooLarge)
    → (bytes : List ℕ) × StandsAt held name (Some bytes) × (largest_file < length bytes)
large_at None name tells = let bytes = longer largest_file in (bytes.0, cc, bytes.1)
large_at (Some files) name tells = at (files name) refl tells
  where
    at : (content : Option (List ℕ)) → files name ≡ content → IsSomeAnd content (λ bytes. largest_file < length bytes)
        → (bytes : List ℕ) × (files name ≡ Some bytes) × (largest_file < length bytes)
    at (Some bytes) is more = (bytes, is, more)
    at None is more = absurd more

-- where it was read, this is its content
pub input_of : (held : Option FileMap) (name bytes : List ℕ) → Tells held name largest_file (Ok bytes) → length bytes ≤ largest_file → IsInput held name bytes
input_of None name bytes tells fits = record { stands = cc; fits = fits }
input_of (Some files) name bytes tells fits = record { stands = tells; fits = fits }

module _ (may_fail : List ℕ → Type 0) (held : Option FileMap) (before now : ℕ) where
  -- what is told of a read that didn't succeed
  pub reads_fault : (name : List ℕ) (why : ReadFault) (told : Halt) → Tells held name largest_file (Err why) → CountsRead before now (Err why)
      → (why ≡ fault.Failed → may_fail name) → TellsReadFault name why told → ReadsInput may_fail held before now name (Err told)
  reads_fault name fault.Missing (halt.Tells answer) tells counts fails says = inl (counts, (inl (missing_at held name tells, says.0), says.1, says.2))
  reads_fault name fault.Missing halt.Memory tells counts fails says = cc
  reads_fault name fault.TooLarge (halt.Tells answer) tells counts fails says =
      let large = large_at held name tells in inl (counts, (inr (large.0, large.1, large.2, says.0), says.1, says.2))
  reads_fault name fault.TooLarge halt.Memory tells counts fails says = cc
  reads_fault name fault.Failed (halt.Tells answer) tells counts fails says = inr (counts, fails refl, says)
  reads_fault name fault.Failed halt.Memory tells counts fails says = cc
  reads_fault name fault.Memory (halt.Tells answer) tells counts fails says = cc
  reads_fault name fault.Memory halt.Memory tells counts fails says = cc

  -- what stops at one of the files stops the command
  pub stopped : (names : List (List ℕ)) (name : List ℕ) (told : Halt) → IsFirstUnread held names name → ReadsInput may_fail held before now name (Err told)
      → ReadsInputs may_fail held before now names (Err told)
  stopped names name halt.Memory first reads = cc
  stopped names name (halt.Tells answer) first (inl lacking) = inl (lacking.0, ((name, first, lacking.1.0), lacking.1.1, lacking.1.2))
  stopped names name (halt.Tells answer) first (inr failed) = inr (failed.0, ((name, first, failed.1, failed.2.0), failed.2.1, failed.2.2))

  -- and it is what the command answers
  pub handed_on : (names : List (List ℕ)) (told : Halt) (result : Result (List (List ℕ)) Halt) → IsErrAnd result (λ halt. halt ≡ told)
      → ReadsInputs may_fail held before now names (Err told) → ReadsInputs may_fail held before now names result
  handed_on names told (Ok contents) is reads = absurd is
  handed_on names told (Err other) is reads = let P : Halt → Type 0 = λ h. ReadsInputs may_fail held before now names (Err h) in subst P (sym is) reads

-- one more file was read
more_inputs : (held : Option FileMap) (names contents : List (List ℕ)) (name bytes : List ℕ) → AreInputs held names contents → IsInput held name bytes
    → AreInputs held (names ++ name ∷ []) (contents ++ bytes ∷ [])
more_inputs held [] [] name bytes all one = (one, cc)
more_inputs held (first ∷ names) (content ∷ contents) name bytes all one = (all.0, more_inputs held names contents name bytes all.1 one)
more_inputs held [] (content ∷ contents) name bytes all one = absurd all
more_inputs held (first ∷ names) [] name bytes all one = absurd all

-- the same in a loop over the names
pub next_input : (held : Option FileMap) (names contents : List (List ℕ)) (i : ℕ) (name bytes : List ℕ) → At names i name → AreInputs held (take i names) contents
    → IsInput held name bytes → AreInputs held (take (i + 1) names) (contents ++ bytes ∷ [])
next_input held names contents i name bytes here all one =
    let P : List (List ℕ) → Type 0 = λ taken. AreInputs held taken (contents ++ bytes ∷ []) in
    subst P (sym (take_item names i name here)) (more_inputs held (take i names) contents name bytes all one)

-- as many contents as names
pub as_many : (held : Option FileMap) (names contents : List (List ℕ)) → AreInputs held names contents → length contents ≡ length names
as_many held [] [] all = refl
as_many held (name ∷ names) (content ∷ contents) all = let rest = as_many held names contents all.1 in omega arith
as_many held [] (content ∷ contents) all = absurd all
as_many held (name ∷ names) [] all = absurd all
