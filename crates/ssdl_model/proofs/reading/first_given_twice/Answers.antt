use Rattle.layouts.proofs.rule_places.Rules.{least_joined}
use Rattle.csdl_names.specs.Repeated.{IsRepeated}
use Rattle.ssdl_model.specs.ssdl_rules.Owned.{IsShared}
use Rattle.ssdl_model.proofs.reading.first_given_twice.Goals as goal

pub returns : goal.returns
returns c =
    let store = c.args.owners.now.lookups.now.model.now in
    least_joined (IsRepeated store) (IsShared store) c.in_ok-repeated.repeated c.in_ok-shared.shared c.earlier.result c.earlier.ensures c.in_ok-repeated.ensures c.in_ok-shared.ensures
