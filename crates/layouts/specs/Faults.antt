-- The order of faults.
use Rattle.std.specs.declared.cmp.Ordering.{Ordering}
use Rattle.std.specs.Ordering.{nat_cmp, on, then_cmp}
use Rattle.json_form.specs.Pointers.{steps_cmp}
use Rattle.layouts.specs.declared.fault.Fault.{Fault}
use Rattle.layouts.specs.Rules.{rule_number}

-- by the number of the rule, and then by the place
abbrev pub fault_cmp : Fault → Fault → Ordering
fault_cmp = then_cmp (on (λ fault. rule_number fault.rule) nat_cmp) (on (λ fault. fault.place) steps_cmp)
