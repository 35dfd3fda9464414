-- A text within its bound, by the count of its characters.
use Rattle.std.proofs.Common.{◌≡◌, ◌↔◌, ℕ, List, length, Option, sym, ap, ◌∙◌, subst}
use Rattle.std.specs.Str.{IsUtf8, chars}
use Rattle.std.proofs.lemmas.Str.{chars-encodes}
use Rattle.emc_base.specs.Domain.{IsWithin, IsText}

-- a text is in the domain of a bound where the count of its characters is within the bound
pub IsText-chars : (bound : Option ℕ) (bytes : List ℕ) → IsUtf8 bytes → (IsWithin bound (length (chars bytes)) ↔ IsText bound bytes)
IsText-chars bound bytes utf8 =
    let P : List ℕ → Type 0 = λ cs. IsWithin bound (length cs) in
    let spells : chars bytes ≡ utf8.0 = ap chars (sym utf8.1.1) ∙ chars-encodes utf8.0 utf8.1.0 in (
      (λ within. record { characters = utf8.0; scalar = utf8.1.0; spelled = utf8.1.1; within = subst P spells within }),
      (λ text. subst P (sym (ap chars (sym text.spelled) ∙ chars-encodes text.characters text.scalar)) text.within),
    )
