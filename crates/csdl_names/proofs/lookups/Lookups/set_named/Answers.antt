use Rattle.std.proofs.Common.{◌∙◌}
use Rattle.csdl_names.proofs.lookups.Lookups.set_named.Goals as goal

pub returns : goal.returns
returns c = c.set_named.ensures ∙ (λ k. (c.args.self.now.named k).set_named (c.as_str.ensures.text k))
