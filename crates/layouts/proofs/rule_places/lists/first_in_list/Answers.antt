use Rattle.layouts.specs.rule_places.Places.{InItems}
use Rattle.json_form.specs.declared.pointer.Step.TheVariants.{Member}
use Rattle.layouts.proofs.rule_places.Seen.{least_behind}
use Rattle.layouts.proofs.rule_places.lists.first_in_list.Goals as goal

pub returns : goal.returns
returns g c =
    least_behind (Member c.args.member.now) (InItems (g.S.Finder.wrong c.args.search.now) c.args.items.now) c.in_ok-found.found c.in_ok-seen.seen
    c.in_ok-seen.ensures c.in_ok-found.ensures
