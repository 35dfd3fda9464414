use Rattle.layouts.proofs.rule_places.Rules.{least_in_same, least_joined}
use Rattle.csdl_types.proofs.inherited.first_below.Goals as goal

pub returns : goal.returns
returns c =
    least_joined _ _ c.in_ok-prop.prop c.in_ok-nav.nav c.earlier.result c.earlier.ensures
    (least_in_same _ _ _ _ c.in_ok-prop.prop c.as_slice.ensures.items c.in_ok-prop.ensures)
    (least_in_same _ _ _ _ c.in_ok-nav.nav c.as_slice-2.ensures.items c.in_ok-nav.ensures)
