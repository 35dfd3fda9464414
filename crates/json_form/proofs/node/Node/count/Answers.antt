use Rattle.std.proofs.Common.{◌∙◌, ap, sym}
use Rattle.json_form.proofs.Views.{count_in-Array, count_in-Object}
use Rattle.json_form.specs.TreeParts.{count_in}
use Rattle.serde_json.specs.View.{view}
use Rattle.json_form.proofs.node.Node.count.Goals as goal

pub returns-in-Array : goal.returns-in-Array
returns-in-Array c = c.len.ensures ∙ sym (ap (λ v. count_in (view v)) c.in-Array.is ∙ count_in-Array c.in-Array.items)

pub returns-in-Object : goal.returns-in-Object
returns-in-Object c = c.len-in-Object.ensures.len ∙ sym (ap (λ v. count_in (view v)) c.in-Object.is ∙ count_in-Object c.in-Object.members)
