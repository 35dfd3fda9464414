use Rattle.layouts.proofs.rule_places.Rules.{least_in_same}
use Rattle.csdl_types.proofs.prop_types.first_prop_type_fault.Goals as goal

pub returns : goal.returns
returns c = least_in_same _ _ _ _ c.in_ok-found.found c.as_slice.ensures.items c.in_ok-found.ensures
