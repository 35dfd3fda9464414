use Rattle.std.proofs.Common.{◌∙◌, ap}
use Rattle.json_form.specs.Trees.{array_of}
use Rattle.serde_json.specs.Written.{has_float}
use Rattle.drill_documents.proofs.Plain.{changes_plain}
use Rattle.drill_documents.proofs.changes.changes_document.Goals as goal

pub returns-clause-plain : goal.returns-clause-plain
returns-clause-plain c = ap has_float (c.of_tree.ensures ∙ c.array_tree.ensures ∙ ap array_of c.in_ok-trees.ensures) ∙ changes_plain c.args.seed c.args.count
