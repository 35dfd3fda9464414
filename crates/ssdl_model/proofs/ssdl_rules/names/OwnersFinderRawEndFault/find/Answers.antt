use Rattle.layouts.proofs.rule_places.Rules.{least_where}
use Rattle.ssdl_model.proofs.ssdl_rules.names.OwnersFinderRawEndFault.find.Goals as goal

pub returns : goal.returns
returns c = least_where _ c.in_ok-found.found c.is_of_no_table.ensures c.in_ok-found.ensures
