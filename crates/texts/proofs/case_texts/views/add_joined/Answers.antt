use Rattle.std.proofs.Common.{ap, ◌∙◌}
use Rattle.serde_json.specs.Written.{has_float}
use Rattle.texts.proofs.case_texts.Plain.{joined_tree-plain}
use Rattle.texts.proofs.case_texts.views.add_joined.Goals as goal

pub add_line-requires : goal.add_line-requires
add_line-requires c = ap has_float c.in_ok-tree.ensures ∙ joined_tree-plain c.args.parts.now.model.now c.args.parts.now.store.now c.in-Some.case
