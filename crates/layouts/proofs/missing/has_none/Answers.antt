use Rattle.json_form.specs.Nodes.{part_of}
use Rattle.layouts.proofs.Lacking.{none_told}
use Rattle.layouts.proofs.missing.has_none.Goals as goal

pub returns : goal.returns
returns c = none_told part_of c.is_none.result c.member.result (part_of c.args.node) c.args.name.now c.is_none.ensures c.member.ensures
