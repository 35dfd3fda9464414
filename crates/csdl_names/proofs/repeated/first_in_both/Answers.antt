use Rattle.std.proofs.Common.{[], map, codes}
use Rattle.groupings.specs.least_fault.Least.{IsLeast}
use Rattle.layouts.specs.Faults.{fault_cmp}
use Rattle.layouts.specs.rule_places.Names.{IsRepeatedIn}
use Rattle.layouts.proofs.rule_places.Known.{of_one}
use Rattle.layouts.proofs.rule_places.Rules.{least_searches, searched}
use Rattle.csdl_names.proofs.repeated.first_in_both.Goals as goal

pub returns : goal.returns
returns g c =
    let firsts = c.args.firsts.now in
    let names = map g.T.Named.name_in firsts in
    least_searches (IsRepeatedIn g.T.Named.name_in [] c.args.first.now (codes "Name") firsts)
    (IsRepeatedIn g.U.Named.name_in names c.args.second.now (codes "Name") c.args.seconds.now)
    c.first_twice-found.result c.first_again-other.result c.earlier_of-least.result c.earlier_of-least.ensures c.first_twice-found.ensures
    (searched (IsLeast fault_cmp (IsRepeatedIn g.U.Named.name_in names c.args.second.now (codes "Name") c.args.seconds.now)) c.first_again-other.result c.first_again-other.ensures
    (λ found again. again names (of_one g.T.Named.name_in firsts _ c.in_ok-known.ensures)))
