use Rattle.std.proofs.Common.{◌≢◌, List, All, sym, subst}
use Rattle.round_trip.specs.Words.{Null, PropId, values_of}
use Rattle.state_legality.proofs.link_legality.legal.refers.Goals as goal

pub returns-then-is_under : goal.returns-then-is_under
returns-then-is_under c =
    let P : List PropId → Type 0 = λ props. All (λ value. value ≢ Null) (values_of c.args.model.now c.args.entity.now props) in (
      λ is. (c.is_under.ensures.0 c.if-is_under.true, subst P c.as_slice.ensures.items (c.have_no_null.ensures.0 is)),
      λ both. c.have_no_null.ensures.1 (subst P (sym c.as_slice.ensures.items) both.1),
    )
