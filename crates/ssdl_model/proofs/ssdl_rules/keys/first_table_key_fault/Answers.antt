use Rattle.layouts.proofs.rule_places.Rules.{least_where}
use Rattle.ssdl_model.proofs.ssdl_rules.keys.first_table_key_fault.Goals as goal

pub returns : goal.returns
returns c = least_where _ c.in_ok-found.found c.breaks_key_of.ensures c.in_ok-found.ensures
