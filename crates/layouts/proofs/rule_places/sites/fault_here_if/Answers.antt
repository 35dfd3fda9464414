use Rattle.std.proofs.Common.{[], sym, ◌∙◌}
use Rattle.std.specs.Prelude.{IsTrue}
use Rattle.groupings.proofs.least_fault.Leasts.{least_only}
use Rattle.layouts.specs.declared.fault.Fault.{Fault}
use Rattle.layouts.specs.FaultOrder.{fault_cmp_total}
use Rattle.layouts.specs.Faults.{fault_cmp}
use Rattle.layouts.proofs.Faults.{same_fault}
use Rattle.layouts.specs.rule_places.Places.{IsAt}
use Rattle.layouts.proofs.rule_places.sites.fault_here_if.Goals as goal

pub returns : goal.returns
returns c =
    let P : Fault → Type 0 = λ other. IsTrue c.args.is_broken × IsAt c.args.rule [] other in
    least_only fault_cmp fault_cmp_total P c.here.result (c.if-not-is_broken.false, (c.here.ensures.rule, c.here.ensures.place))
    (λ other holds. same_fault other c.here.result (holds.1.0 ∙ sym c.here.ensures.rule) (holds.1.1 ∙ sym c.here.ensures.place))
