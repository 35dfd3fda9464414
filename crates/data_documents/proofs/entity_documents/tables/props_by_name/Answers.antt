use Rattle.std.proofs.Common.{rules}
use Rattle.data_documents.specs.entity_documents.Tables.{name_or}
use Rattle.data_documents.proofs.entity_documents.tables.props_by_name.Goals as goal

pub returns : goal.returns
returns c = c.in_ok-places.ensures (name_or c.args.model.now c.args.unnamed.now) (λ prop name lent. search rules)
