-- The least fault that is seen from the node that a step leads from, and the least at one place.
use Rattle.std.proofs.Common.{◌≡◌, Option, sym, subst}
use Rattle.std.specs.Option.{option_map}
use Rattle.json_form.specs.declared.pointer.Step.{Step}
use Rattle.groupings.specs.least_fault.Least.{IsLeast}
use Rattle.layouts.specs.declared.fault.Fault.{Fault}
use Rattle.layouts.specs.Faults.{fault_cmp}
use Rattle.layouts.specs.Inside.{Under, after}
use Rattle.layouts.proofs.Faults.{least_under}

-- what is found behind a step
pub least_behind : (step : Step) (P : Fault → Type 0) (found seen : Option Fault) → seen ≡ option_map (after step) found → IsLeast fault_cmp P found
    → IsLeast fault_cmp (Under step P) seen
least_behind step P found seen is least = subst (λ (told : Option Fault). IsLeast fault_cmp (Under step P) told) (sym is) (least_under step P found least)
