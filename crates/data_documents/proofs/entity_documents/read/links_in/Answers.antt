use Rattle.std.proofs.Common.{map, ap, ◌∙◌}
use Rattle.std.proofs.lemmas.List.{take_all}
use Rattle.json_form.specs.Nodes.{part_of}
use Rattle.data_documents.specs.entity_documents.States.{links_of}
use Rattle.data_documents.proofs.entity_documents.read.links_in.Goals as goal

pub returns : goal.returns
returns c =
    c.loop-assoc.invariant
    ∙ ap (map (links_of c.args.model.now (part_of c.args.node)))
    (take_all c.loop-assoc.assoc-index c.as_slice-assoc-items.result.now c.loop-assoc-test.false ∙ c.as_slice-assoc-items.ensures.items)
