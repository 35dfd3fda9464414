use Rattle.std.proofs.Common.{ℕ, Option, ap, ◌∙◌}
use Rattle.std.specs.Option.{option_and_then}
use Rattle.csdl_names.proofs.lookups.Lookups.base.Goals as goal

pub returns : goal.returns
returns c = ap (option_and_then (λ (base : Option ℕ). base)) c.in_ok-get.ensures.item ∙ (λ k. c.args.self.now.based k c.args.ty)

pub returns-in_err-get : goal.returns-in_err-get
returns-in_err-get c = c.from_residual.ensures ∙ ap (option_and_then (λ (base : Option ℕ). base)) c.in_err-get.ensures.item ∙ (λ k. c.args.self.now.based k c.args.ty)
