-- A conflict is found exactly where some legal state fails.
use Rattle.std.proofs.Common.{◌≡◌, ◌↔◌, IsTrue, Option, Some, None, IsSome, Result, Ok, Err, IfOk, refl, sym, subst}
use Rattle.emc_base.specs.declared.memory.Memory.{Memory}
use Rattle.round_trip.specs.declared.FailKind.{FailKind}
use Rattle.cells.specs.declared.parts.Parts.{Parts}
use Rattle.cells.specs.Parts.{AreParts, schema_in}
use Rattle.regions.specs.Basis.{Basis}
use Rattle.region_states.specs.region_basis.BasisOf.{basis_of}
use Rattle.region_states.proofs.region_basis.Bases.{basis_is}
use Rattle.region_states.specs.conflicts.Conflicts.{is_fact, kind_of}
use Rattle.region_states.specs.conflicts.There.{NoneFailsBefore}
use Rattle.failure_laws.specs.Facts.{IsSo, TellsOfOne}
use Rattle.failure_laws.proofs.witness.Computed.{fact_so}
use Rattle.region_states.specs.declared.conflicts.conflict.Conflict.{Conflict}

-- what is found is one, where nothing is found there is none, and there is one exactly where it fails
exact_found : (IsOne : Conflict → Type 0) (Fails : Type 0) (found : Option Conflict) → ((made : Conflict) → found ≡ Some made → IsOne made)
    → (found ≡ None → (made : Conflict) → ¬ IsOne made) → (((made : Conflict) × IsOne made) ↔ Fails) → IsSome found ↔ Fails
exact_found IsOne Fails None told free exact = (λ some. (let never = some in cc), λ fails. (let found = exact.1 fails in absurd (free refl found.0 found.1)))
exact_found IsOne Fails (Some made) told free exact = (λ some. exact.0 (made, told made refl), λ fails. refl)

-- the same of an answer; where memory ran out nothing is said
pub found_exactly : (IsOne : Conflict → Type 0) (Fails : Type 0) (result : Result (Option Conflict) Memory)
    → IfOk result (λ found. (made : Conflict) → found ≡ Some made → IsOne made) → IfOk result (λ found. found ≡ None → (made : Conflict) → ¬ IsOne made)
    → (((made : Conflict) × IsOne made) ↔ Fails) → IfOk result (λ found. IsSome found ↔ Fails)
found_exactly IsOne Fails (Ok found) told free exact = exact_found IsOne Fails found told free exact
found_exactly IsOne Fails (Err memory) told free exact = _

module _ (parts : Parts) (are : AreParts parts) (kind : FailKind) (before : NoneFailsBefore (schema_in parts) kind) where
  abbrev basis : Basis
  basis = basis_of parts

  -- what a conflict of the kind tells is so
  so_of_kind : (conflict : Conflict) → kind_of conflict ≡ kind → TellsOfOne basis conflict → IsTrue (is_fact basis conflict) → IsSo basis conflict
  so_of_kind conflict is_kind tells told =
      let Before : FailKind → Type 0 = λ how. NoneFailsBefore (schema_in parts) how in
      fact_so basis (basis_is parts are) are.limits conflict tells (subst Before (sym is_kind) before) told

  -- and so is that of one which is found
  pub found_so : (At : Conflict → Type 0) → ((conflict : Conflict) → At conflict → (kind_of conflict ≡ kind) × TellsOfOne basis conflict × IsTrue (is_fact basis conflict))
      → (result : Result (Option Conflict) Memory) → IfOk result (λ found. (conflict : Conflict) → found ≡ Some conflict → At conflict)
      → IfOk result (λ found. (conflict : Conflict) → found ≡ Some conflict → IsSo basis conflict)
  found_so At tells (Ok found) told = λ conflict is. let of = tells conflict (told conflict is) in so_of_kind conflict of.0 of.1 of.2
  found_so At tells (Err memory) told = _
