use Rattle.std.proofs.Common.{◌≡◌, [], ◌∷◌, ap, sym, ◌∙◌}
use Rattle.json_form.specs.declared.pointer.Step.TheVariants.{Member}
use Rattle.json_form.specs.Nodes.{part_of}
use Rattle.groupings.proofs.least_fault.Leasts.{least_only}
use Rattle.layouts.specs.declared.fault.Fault.{Fault}
use Rattle.layouts.specs.declared.rule.Rule.TheVariants.{HasMembers}
use Rattle.layouts.specs.FaultOrder.{fault_cmp_total}
use Rattle.layouts.specs.Faults.{fault_cmp}
use Rattle.layouts.specs.Inside.{IsLackFault}
use Rattle.layouts.proofs.Faults.{same_fault}
use Rattle.layouts.proofs.missing.first_lack.Goals as goal

pub returns : goal.returns
returns c =
    let seen : Fault = c.in_ok-seen.seen in
    let rule : seen.rule ≡ HasMembers = ap (λ (fault : Fault). fault.rule) c.in_ok-seen.ensures ∙ c.here-fault.ensures.rule in
    let place : seen.place ≡ Member c.args.name.now ∷ [] =
    ap (λ (fault : Fault). fault.place) c.in_ok-seen.ensures
    ∙ (λ i. Member (c.in_ok-of.ensures i) ∷ c.here-fault.ensures.place i) in
    least_only fault_cmp fault_cmp_total (IsLackFault c.args.shape (part_of c.args.node) c.args.name.now) seen
    (record { rule = rule; place = place; lacks = c.lacks.ensures.0 c.if-not-lacks.false })
    (λ fault is. same_fault fault seen (is.rule ∙ sym rule) (is.place ∙ sym place))
