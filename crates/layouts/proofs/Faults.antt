-- Faults by their parts, and the least fault behind a step.
use Rattle.std.proofs.Common.{◌≡◌, ◌≢◌, Option, Some, None, refl, sym, ap, subst}
use Rattle.std.specs.declared.cmp.Ordering.{Ordering}
use Rattle.std.specs.declared.cmp.Ordering.TheVariants.{Greater}
use Rattle.std.specs.Cmp.{tied_itself}
use Rattle.std.specs.Option.{option_map}
use Rattle.std.specs.Ordering.{nat_cmp, ordering_then}
use Rattle.emc_base.proofs.facts.Orderings.{equal_upto}
use Rattle.json_form.specs.declared.pointer.Step.{Step}
use Rattle.json_form.specs.PlaceOrder.{step_cmp_total}
use Rattle.json_form.specs.Pointers.{steps_cmp}
use Rattle.groupings.specs.least_fault.Least.{IsLeast}
use Rattle.layouts.specs.declared.fault.Fault.{Fault}
use Rattle.layouts.specs.FaultOrder.{fault_cmp_total}
use Rattle.layouts.specs.Faults.{fault_cmp}
use Rattle.layouts.specs.Inside.{Under, after}
use Rattle.layouts.specs.Rules.{rule_number}

-- faults of one rule and one place are one
pub same_fault : (one other : Fault) → one.rule ≡ other.rule → one.place ≡ other.place → one ≡ other
same_fault one other rule place = λ i. record { rule = rule i; place = place i }

-- a fault doesn't come after itself
pub not_after_itself : (fault : Fault) → fault_cmp fault fault ≢ Greater
not_after_itself fault = equal_upto (fault_cmp fault fault) (tied_itself fault_cmp_total fault)

-- a step before both places changes nothing of their order
after_cmp : (step : Step) (one other : Fault) → fault_cmp (after step one) (after step other) ≡ fault_cmp one other
after_cmp step one other =
    ap (λ order. ordering_then (nat_cmp (rule_number one.rule) (rule_number other.rule)) (ordering_then order (steps_cmp one.place other.place)))
    (tied_itself step_cmp_total step)

-- the least fault behind a step is the least that is seen from there
pub least_under : (step : Step) (P : Fault → Type 0) (found : Option Fault) → IsLeast fault_cmp P found
    → IsLeast fault_cmp (Under step P) (option_map (after step) found)
least_under step P None none = λ fault some. none (record { rule = fault.rule; place = some.rest }) some.holds
least_under step P (Some found) is = (record { rest = found.place; reached = refl; holds = is.0 }, before)
  where
    before : (fault : Fault) → Under step P fault → fault_cmp (after step found) fault ≢ Greater
    before fault some =
        let seen : Fault = record { rule = fault.rule; place = some.rest } in
        let same : fault ≡ after step seen = same_fault fault (after step seen) refl some.reached in
        subst (λ (other : Fault). fault_cmp (after step found) other ≢ Greater) (sym same)
        (subst (λ (order : Ordering). order ≢ Greater) (sym (after_cmp step found seen)) (is.1 seen some.holds))
