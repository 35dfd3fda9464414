use Rattle.std.proofs.Common.{◌∙◌, ap}
use Rattle.serde_json.specs.Written.{has_float}
use Rattle.drill_documents.proofs.Plain.{entities_plain}
use Rattle.drill_documents.proofs.entities.entities_document.Goals as goal

pub returns-clause-plain : goal.returns-clause-plain
returns-clause-plain c = ap has_float (c.of_tree.ensures ∙ c.in_ok-tree.ensures) ∙ entities_plain c.args.seed c.args.count
