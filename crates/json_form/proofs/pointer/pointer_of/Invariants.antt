use Rattle.std.proofs.Common.{◌≡◌, take, flat_map, string_bytes}
use Rattle.json_form.specs.Pointers.{step_text}
use Rattle.json_form.proofs.pointer.pointer_of.Given as goal

abbrev pub invariant-loop-step : goal.invariant-loop-step
invariant-loop-step l = string_bytes l.text ≡ flat_map step_text (take l.step-index l.steps)
