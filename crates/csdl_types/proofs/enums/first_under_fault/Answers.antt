use Rattle.layouts.proofs.rule_places.Rules.{least_where}
use Rattle.csdl_types.proofs.enums.first_under_fault.Goals as goal

pub returns : goal.returns
returns c = least_where _ c.in_ok-found.found c.has_no_under-is_broken.ensures c.in_ok-found.ensures
