use Rattle.std.proofs.Common.{map, ap, ◌∙◌}
use Rattle.std.proofs.lemmas.List.{take_all}
use Rattle.std.proofs.lemmas.Result.{IfOk-weaker}
use Rattle.json_form.specs.Pointers.{pointer_of}
use Rattle.data_documents.specs.shape_faults.Places.{plain_step}
use Rattle.data_documents.proofs.shape_faults.place.ShapePlace.pointer.Goals as goal

pub returns : goal.returns
returns c = IfOk-weaker c.pointer_of.result _ _
    (λ text is. is
    ∙ ap pointer_of
    (c.as_slice.ensures.value ∙ c.loop-step.invariant
    ∙ ap (map plain_step) (take_all c.loop-step.step-index c.as_slice-step-items.result.now c.loop-step-test.false ∙ c.as_slice-step-items.ensures)))
    c.pointer_of.ensures
