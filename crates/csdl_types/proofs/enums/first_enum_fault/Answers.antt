use Rattle.layouts.proofs.rule_places.Rules.{least_joined}
use Rattle.csdl_types.proofs.enums.first_enum_fault.Goals as goal

pub returns : goal.returns
returns c =
    least_joined _ _ c.in_ok-no_under.no_under c.earlier.result c.earlier-2.result c.earlier-2.ensures c.in_ok-no_under.ensures
    (least_joined _ _ c.in_ok-no_members.no_members c.in_ok-member.member c.earlier.result c.earlier.ensures c.in_ok-no_members.ensures c.in_ok-member.ensures)
