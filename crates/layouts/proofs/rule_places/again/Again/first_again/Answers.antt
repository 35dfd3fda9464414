use Rattle.layouts.proofs.rule_places.Known.{again_by_names}
use Rattle.layouts.proofs.rule_places.again.Again.first_again.Goals as goal

pub returns : goal.returns
returns g c =
    let self = c.args.self.now in
    again_by_names g.T.Named.name_in self.others.now c.args.member.now self.last.now self.items.now c.in_ok-found.found c.in_ok-found.ensures
