use Rattle.std.proofs.Common.{option_map, ◌∙◌, ap}
use Rattle.json_form.proofs.Views.{at-items_in}
use Rattle.json_form.specs.Nodes.{part_of}
use Rattle.json_form.proofs.node.Node.item.Goals as goal

pub returns-in_err-value : goal.returns-in_err-value
returns-in_err-value c = ap (option_map part_of) c.from_residual.ensures ∙ c.in_err-value.ensures ∙ at-items_in c.args.i (part_of c.args.self.now)

pub returns : goal.returns
returns c = c.in_ok-value.ensures ∙ at-items_in c.args.i (part_of c.args.self.now)
