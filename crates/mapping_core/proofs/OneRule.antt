-- Only one rule is told of three documents.
use Rattle.std.proofs.Common.{◌≡◌, ◌∙◌, ℕ, List, sym, subst}
use Rattle.std.proofs.Math.Nat.{le_antisymm}
use Rattle.emc_base.proofs.Orders.{neither_after}
use Rattle.layouts.specs.FaultOrder.{fault_cmp_apart, fault_cmp_total}
use Rattle.layouts.specs.Faults.{fault_cmp}
use Rattle.round_trip.specs.Words.{RuleFault}
use Rattle.layouts.specs.told_rules.Told.{told_as}
use Rattle.mapping_core.specs.Rules.{Breaks, IsToldRule}
use Rattle.mapping_core.proofs.Told.{same_file}

pub one_told : (csdl ssdl msl : List ℕ) (one two : RuleFault) → IsToldRule csdl ssdl msl one → IsToldRule csdl ssdl msl two → one ≡ two
one_told csdl ssdl msl one two first second =
    let files : one.file ≡ two.file = same_file one.file two.file (le_antisymm
    (first.in_first_file two.file second.fault second.broken) (second.in_first_file one.file first.fault first.broken)) in
    let one_there : Breaks csdl ssdl msl two.file first.fault = subst (λ file. Breaks csdl ssdl msl file first.fault) files first.broken in
    let two_here : Breaks csdl ssdl msl one.file second.fault = subst (λ file. Breaks csdl ssdl msl file second.fault) (sym files) second.broken in
    let faults : first.fault ≡ second.fault = neither_after fault_cmp fault_cmp_total fault_cmp_apart first.fault second.fault
    (first.least second.fault two_here) (second.least first.fault one_there) in
    first.spelled ∙ (λ i. told_as (files i) (faults i)) ∙ sym second.spelled
