use Rattle.std.proofs.Common.{map, ap, ◌∙◌}
use Rattle.std.proofs.lemmas.List.{take_all}
use Rattle.json_form.specs.Nodes.{part_of}
use Rattle.data_documents.specs.entity_documents.States.{entities_of}
use Rattle.data_documents.proofs.entity_documents.read.entities_in.Goals as goal

pub returns : goal.returns
returns c =
    c.loop-set.invariant
    ∙ ap (map (entities_of c.args.names.now.model.now (part_of c.args.node)))
    (take_all c.loop-set.set-index c.as_slice-set-items.result.now c.loop-set-test.false ∙ c.as_slice-set-items.ensures.items)
