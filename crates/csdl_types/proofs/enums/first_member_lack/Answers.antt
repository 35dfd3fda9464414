use Rattle.layouts.proofs.rule_places.Rules.{least_where}
use Rattle.csdl_types.proofs.enums.first_member_lack.Goals as goal

pub returns : goal.returns
returns c = least_where _ c.in_ok-found.found c.is_empty-is_broken.ensures c.in_ok-found.ensures
