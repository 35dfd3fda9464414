-- What was found of the parts of an expression answers whether it holds.
use Rattle.std.proofs.Common.{◌≡◌, ◌↔◌, IsTrue, true, false, List, All, Any, refl, sym, subst}
use Rattle.condition_logic.specs.declared.expr.Expr.{Expr}
use Rattle.condition_logic.specs.declared.expr.Expr.TheVariants as expr
use Rattle.condition_logic.specs.Readings.{Reading}
use Rattle.condition_logic.specs.Holds.{Holds}
use Rattle.condition_logic.proofs.Meaning.{holds_all, holds_any}

yes_if : {P : Type 0} → P → IsTrue true ↔ P
yes_if so = (λ yes. so, λ p. refl)

no_if : {P : Type 0} → ¬ P → IsTrue false ↔ P
no_if not = (λ never. absurd (let none : ⊥ = cc in none), λ p. absurd (not p))

module _ (reading : Reading) (whole : Expr) (parts : List Expr) where
  all_hold : whole ≡ expr.All parts → All (Holds reading) parts → Holds reading whole
  all_hold is all = subst (Holds reading) (sym is) ((holds_all reading parts).1 all)

  any_holds : whole ≡ expr.Any parts → Any (Holds reading) parts → Holds reading whole
  any_holds is any = subst (Holds reading) (sym is) ((holds_any reading parts).1 any)

  pub yes_all : whole ≡ expr.All parts → All (Holds reading) parts → IsTrue true ↔ Holds reading whole
  yes_all is all = yes_if (all_hold is all)

  pub no_all : whole ≡ expr.All parts → ¬ All (Holds reading) parts → IsTrue false ↔ Holds reading whole
  no_all is not = no_if (λ holds. not ((holds_all reading parts).0 (subst (Holds reading) is holds)))

  pub yes_any : whole ≡ expr.Any parts → Any (Holds reading) parts → IsTrue true ↔ Holds reading whole
  yes_any is any = yes_if (any_holds is any)

  pub no_any : whole ≡ expr.Any parts → ¬ Any (Holds reading) parts → IsTrue false ↔ Holds reading whole
  no_any is not = no_if (λ holds. not ((holds_any reading parts).0 (subst (Holds reading) is holds)))
