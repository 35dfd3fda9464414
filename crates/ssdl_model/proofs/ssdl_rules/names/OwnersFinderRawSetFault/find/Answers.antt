use Rattle.layouts.proofs.rule_places.Rules.{least_where}
use Rattle.ssdl_model.proofs.ssdl_rules.names.OwnersFinderRawSetFault.find.Goals as goal

pub returns : goal.returns
returns c = least_where _ c.in_ok-found.found c.has_type_of_other-is_broken.ensures c.in_ok-found.ensures
