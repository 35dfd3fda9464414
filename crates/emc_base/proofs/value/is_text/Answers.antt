use Rattle.std.proofs.Common.{◌↔◌, ℕ, length, ◌∙◌, ap, sym, subst}
use Rattle.std.specs.Str.{chars}
use Rattle.emc_base.specs.Domain.{IsWithin, IsText}
use Rattle.emc_base.proofs.facts.Texts.{IsText-chars}
use Rattle.emc_base.proofs.value.is_text.Goals as goal

pub returns : goal.returns
returns c =
    let P : ℕ → Type 0 = λ count. IsWithin c.args.bound count in
    let counted = c.character_count.ensures ∙ ap (λ bytes. length (chars bytes)) c.as_str.ensures.text in
    let law : IsWithin c.args.bound (length (chars c.args.text.now)) ↔ IsText c.args.bound c.args.text.now =
    IsText-chars c.args.bound c.args.text.now c.as_str.ensures.utf8 in (
      (λ yes. law.0 (subst P counted (c.is_within.ensures.0 yes))),
      (λ text. c.is_within.ensures.1 (subst P (sym counted) (law.1 text))),
    )
