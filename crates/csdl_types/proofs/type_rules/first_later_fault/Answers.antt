use Rattle.layouts.proofs.rule_places.Rules.{least_in_same, least_joined}
use Rattle.csdl_types.proofs.type_rules.first_later_fault.Goals as goal

pub returns : goal.returns
returns c =
    least_joined _ _ c.in_ok-in_type.in_type c.in_ok-in_enum.in_enum c.earlier.result c.earlier.ensures
    (least_in_same _ _ _ _ c.in_ok-in_type.in_type c.as_slice.ensures.items c.in_ok-in_type.ensures)
    (least_in_same _ _ _ _ c.in_ok-in_enum.in_enum c.as_slice-2.ensures.items c.in_ok-in_enum.ensures)
