use Rattle.layouts.proofs.rule_places.Rules.{least_where}
use Rattle.csdl_types.proofs.bounds.BoundsFinderRawPropFault.find.Goals as goal

pub returns : goal.returns
returns c = least_where _ c.in_ok-found.found c.prop_breaks_bound.ensures c.in_ok-found.ensures
