-- Two things, of which the second may be missing.
use Rattle.std.proofs.Common.{◌≡◌, Result, Ok, IfOk, sym, subst}
use Rattle.std.proofs.lemmas.Result.{IfOk-at_ok, IfOk-weaker}

-- what is said when both are there
abbrev pub AreBoth : {A B E : Type 0} → A → Result B E → A × B → Type 0
AreBoth first second pair = (pair.0 ≡ first) × (second ≡ Ok pair.1)

module _ {A B E : Type 0} (first : A) (second : Result B E) (both : Result (A × B) E) where
  -- what holds of the first holds of the first of both
  pub first_of : (P : A → Type 0) → IfOk both (AreBoth first second) → P first → IfOk both (λ pair. P pair.0)
  first_of P are holds = IfOk-weaker both (AreBoth first second) (λ pair. P pair.0) (λ pair same. subst P (sym same.0) holds) are

  -- what holds of the second holds of the second of both
  pub second_of : (P : B → Type 0) → IfOk both (AreBoth first second) → IfOk second P → IfOk both (λ pair. P pair.1)
  second_of P are holds = IfOk-weaker both (AreBoth first second) (λ pair. P pair.1) (λ pair same. IfOk-at_ok P same.1 holds) are
