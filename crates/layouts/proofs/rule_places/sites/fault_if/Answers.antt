use Rattle.std.proofs.Common.{sym, subst, refl, Some, [], ◌∷◌}
use Rattle.json_form.specs.declared.pointer.Step.TheVariants.{Member}
use Rattle.groupings.specs.least_fault.Least.{IsLeast}
use Rattle.groupings.proofs.least_fault.Leasts.{least_only}
use Rattle.layouts.specs.declared.fault.Fault.{Fault}
use Rattle.layouts.specs.FaultOrder.{fault_cmp_total}
use Rattle.layouts.specs.Faults.{fault_cmp}
use Rattle.layouts.proofs.Faults.{same_fault}
use Rattle.std.specs.Prelude.{IsTrue}
use Rattle.layouts.specs.rule_places.Places.{IsAt}
use Rattle.layouts.proofs.rule_places.sites.fault_if.Goals as goal

pub returns : goal.returns
returns c =
    let place = Member c.args.member.now ∷ [] in
    let fault : Fault = record { rule = c.args.rule; place = place } in
    let P : Fault → Type 0 = λ other. IsTrue c.args.is_broken × IsAt c.args.rule place other in
    subst (λ (found : Fault). IsLeast fault_cmp P (Some found)) (sym c.in_ok-fault.ensures)
    (least_only fault_cmp fault_cmp_total P fault (c.if-not-is_broken.false, (refl, refl)) (λ other holds. same_fault other fault holds.1.0 holds.1.1))
