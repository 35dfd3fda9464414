use Rattle.layouts.proofs.rule_places.Rules.{least_where}
use Rattle.csdl_types.proofs.keys.first_key_fault.Goals as goal

pub returns : goal.returns
returns c = least_where _ c.in_ok-found.found c.breaks_key.ensures c.in_ok-found.ensures
