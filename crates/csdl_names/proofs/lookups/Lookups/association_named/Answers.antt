use Rattle.std.proofs.Common.{◌∙◌}
use Rattle.csdl_names.proofs.lookups.Lookups.association_named.Goals as goal

pub returns : goal.returns
returns c = c.association_named.ensures ∙ (λ k. (c.args.self.now.named k).association_named (c.as_str.ensures.text k))
