use Rattle.std.proofs.Common.{map, ap, ◌∙◌}
use Rattle.std.specs.List.{enumerate_from}
use Rattle.emc_base.proofs.Loops.{take-enumerated}
use Rattle.json_form.specs.Nodes.{part_of}
use Rattle.data_documents.specs.entity_documents.States.{part_at}
use Rattle.data_documents.proofs.entity_documents.Turns.{next_made}
use Rattle.data_documents.proofs.entity_documents.read.key_in.Goals as goal

pub loop-place-preserved : goal.loop-place-preserved
loop-place-preserved c =
    c.in_ok-push.ensures.ok
    ∙ next_made (part_at c.args.model.now (part_of c.args.node)) c.key_props-props.result.now c.loop-place.place _ c.loop-place.key c.in_ok-part_at.field-0
    c.loop-place.invariant c.loop-place-test.true c.in_ok-part_at.ensures

pub returns : goal.returns
returns c =
    c.loop-place.invariant
    ∙ ap (map (part_at c.args.model.now (part_of c.args.node)))
    (take-enumerated c.key_props-props.result.now c.loop-place.place c.loop-place-test.false ∙ ap (enumerate_from 0) c.key_props-props.ensures)
