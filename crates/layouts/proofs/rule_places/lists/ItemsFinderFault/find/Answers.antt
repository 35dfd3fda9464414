use Rattle.std.proofs.Common.{rules, ◌≡◌, ℕ, subst}
use Rattle.json_form.specs.declared.pointer.Step.TheVariants.{Item}
use Rattle.groupings.specs.least_fault.Least.{IsLeast}
use Rattle.layouts.specs.Faults.{fault_cmp}
use Rattle.layouts.specs.Inside.{Under}
use Rattle.layouts.proofs.rule_places.Seen.{least_behind}
use Rattle.layouts.proofs.rule_places.lists.ItemsFinderFault.find.Goals as goal

pub returns : goal.returns
returns g c =
    let P = g.S.Finder.wrong c.args.self.now.search.now c.args.place c.args.item.now in
    let is : c.in-Ok.step ≡ c.args.place = search rules in
    subst (λ (n : ℕ). IsLeast fault_cmp (Under (Item n) P) c.in_ok-seen.seen) is
    (least_behind (Item c.in-Ok.step) P c.in_ok-found.found c.in_ok-seen.seen c.in_ok-seen.ensures c.in_ok-found.ensures)
