use Rattle.std.proofs.Common.{◌≡◌, map, take}
use Rattle.data_documents.specs.shape_faults.Places.{plain_step}
use Rattle.data_documents.proofs.shape_faults.place.ShapePlace.pointer.Given as goal

-- the steps that were passed, as they are spelled
abbrev pub invariant-loop-step : goal.invariant-loop-step
invariant-loop-step l = l.steps.items ≡ map plain_step (take l.step-index l.step-items)
