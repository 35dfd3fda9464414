use Rattle.std.proofs.Common.{sym, ◌∙◌}
use Rattle.layouts.proofs.rule_places.Rules.{least_in_same, least_where_some}
use Rattle.csdl_types.proofs.enums.first_member_fault.Goals as goal

pub returns : goal.returns
returns c = least_where_some _ _ c.in-Some.under c.in_ok-found.found (sym c.under_of.ensures ∙ c.in-Some.is)
    (least_in_same _ _ _ _ c.in_ok-found.found (c.as_slice.ensures.value ∙ c.in_ok-numbers.ensures) c.in_ok-found.ensures)
