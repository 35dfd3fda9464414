use Rattle.std.proofs.Common.{◌∙◌}
use Rattle.data_documents.proofs.entity_documents.names.ModelNames.association_set_named.Goals as goal

pub returns : goal.returns
returns c = c.place_of.ensures ∙ (λ k. c.args.self.now.tabled.association_sets k c.args.name.now)
