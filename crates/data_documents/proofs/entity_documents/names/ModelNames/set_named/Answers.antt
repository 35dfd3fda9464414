use Rattle.std.proofs.Common.{◌∙◌}
use Rattle.data_documents.proofs.entity_documents.names.ModelNames.set_named.Goals as goal

pub returns : goal.returns
returns c = c.place_of.ensures ∙ (λ k. c.args.self.now.tabled.sets k c.args.name.now)
