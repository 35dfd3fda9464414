use Rattle.std.proofs.Common.{ap, sym, ◌∙◌, map}
use Rattle.serde_json.specs.View.{view}
use Rattle.json_form.specs.TreeParts.{items_in}
use Rattle.json_form.proofs.Views.{items_in-Array}
use Rattle.json_form.proofs.node.Node.items.Goals as goal

pub returns-in-Array : goal.returns-in-Array
returns-in-Array c = ap (map view) c.as_slice.ensures.value ∙ sym (ap (λ v. items_in (view v)) c.in-Array.is ∙ items_in-Array c.in-Array.items)
