use Rattle.std.proofs.Common.{subst}
use Rattle.groupings.specs.least_fault.Least.{IsLeast}
use Rattle.layouts.specs.Faults.{fault_cmp}
use Rattle.layouts.specs.rule_places.Places.{InList}
use Rattle.layouts.proofs.rule_places.lists.first_at.Goals as goal

pub returns : goal.returns
returns g c = subst (λ items. IsLeast fault_cmp (InList c.args.member.now (g.S.Finder.wrong c.args.search.now) items) c.in_ok-found.found)
    c.as_slice.ensures.items c.in_ok-found.ensures
