use Rattle.layouts.proofs.rule_places.Rules.{least_where}
use Rattle.csdl_types.proofs.keys.KeyPropsFinderRawPropFault.find.Goals as goal

pub returns : goal.returns
returns g c = least_where _ c.in_ok-found.found c.is_broken.ensures c.in_ok-found.ensures
