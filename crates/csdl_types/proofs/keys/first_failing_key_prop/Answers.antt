use Rattle.std.proofs.Common.{Some, sym, ap, ◌∙◌}
use Rattle.layouts.proofs.rule_places.Rules.{least_in_same, least_where_some}
use Rattle.csdl_types.proofs.keys.first_failing_key_prop.Goals as goal

pub returns : goal.returns
returns g c = least_where_some _ _ c.as_slice-key.result.now c.in_ok-found.found (c.in-Some.is ∙ ap Some (sym c.as_slice-key.ensures.items))
    (least_in_same _ _ _ _ c.in_ok-found.found c.as_slice.ensures.items c.in_ok-found.ensures)
