-- A comparison of values tells whether they are one.
use Rattle.std.proofs.Common.{◌≡◌, ◌≢◌, ◌↔◌, IsTrue, Bool, Option, Some, Bor, unwrap_or, sym, subst, ◌∙◌}
use Rattle.std.specs.Option.{option_copied}
use Rattle.std.specs.Cmp.{Equal-is}
use Rattle.std.proofs.lemmas.Cmp.{tied_itself}
use Rattle.std.specs.Ordering.{eq_by_cmp}
use Rattle.std.specs.declared.cmp.Ordering.TheVariants.{Equal}
use Rattle.emc_base.specs.Order.{value_cmp}
use Rattle.emc_base.specs.OrderLaws.{value_cmp_apart, value_cmp_total}
use Rattle.condition_logic.specs.Words.{Value, Null}
use Rattle.condition_logic.specs.Readings.{Equals}

pub tells_same : (one two : Value) → IsTrue (eq_by_cmp value_cmp one two) ↔ (one ≡ two)
tells_same one two = (
  (λ told. value_cmp_apart one two ((Equal-is (value_cmp one two)).0 told)),
  (λ same. (Equal-is (value_cmp one two)).1 (let P : Value → Type 0 = λ x. value_cmp one x ≡ Equal in subst P same (tied_itself value_cmp_total one))),
)

-- of a value that isn't null
pub tells_equal : (held : Option (Bor Value)) (one : Bor Value) (constant : Value) (told : Bool) → held ≡ Some one → unwrap_or (option_copied held) Null ≢ Null
    → told ≡ eq_by_cmp value_cmp one.now constant → IsTrue told ↔ Equals (unwrap_or (option_copied held) Null) constant
tells_equal held one constant told is filled by =
    let P : Option (Bor Value) → Type 0 = λ h. unwrap_or (option_copied h) Null ≢ Null → IsTrue told ↔ Equals (unwrap_or (option_copied h) Null) constant in
    let same = tells_same one.now constant in
    subst P (sym is) (λ full. (λ yes. (same.0 (sym by ∙ yes), full), λ equal. by ∙ same.1 equal.0)) filled
