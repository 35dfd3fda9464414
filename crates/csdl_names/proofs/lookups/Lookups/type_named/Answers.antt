use Rattle.std.proofs.Common.{◌∙◌}
use Rattle.csdl_names.proofs.lookups.Lookups.type_named.Goals as goal

pub returns : goal.returns
returns c = c.type_named.ensures ∙ (λ k. (c.args.self.now.named k).type_named (c.as_str.ensures.text k))
