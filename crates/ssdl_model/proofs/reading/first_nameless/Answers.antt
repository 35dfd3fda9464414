use Rattle.layouts.proofs.rule_places.Rules.{least_joined}
use Rattle.csdl_names.specs.Unresolved.{IsUnresolved}
use Rattle.ssdl_model.specs.ssdl_rules.Owned.{IsEndless}
use Rattle.ssdl_model.proofs.reading.first_nameless.Goals as goal

pub returns : goal.returns
returns c =
    let store = c.args.owners.now.lookups.now.model.now in
    least_joined (IsUnresolved store) (IsEndless store) c.in_ok-unresolved.unresolved c.in_ok-endless.endless c.earlier.result c.earlier.ensures c.in_ok-unresolved.ensures c.in_ok-endless.ensures
