use Rattle.std.proofs.Common.{List, subst}
use Rattle.std.proofs.lemmas.Result.{IfOk-weaker}
use Rattle.round_trip.specs.Words.{IsA, TypeId, Value}
use Rattle.state_legality.specs.link_legality.InOrder.{StandTogether}
use Rattle.state_legality.specs.link_legality.Sides.{end_at, partners_at}
use Rattle.state_legality.proofs.link_legality.InOrder.{together_moved}
use Rattle.state_legality.proofs.link_legality.in_order.keep_sorted.Goals as goal

pub returns : goal.returns
returns c =
    let assoc = c.args.assoc.now in
    let side = c.args.side in
    let Fits : TypeId → Type 0 = λ t. IsA c.args.model.now t (end_at assoc side).ty in
    let P : List (List Value) → Type 0 = λ linked. StandTogether (partners_at assoc side) Fits c.args.standing.now linked in
    IfOk-weaker c.keep_side.result _ _ (λ kept together is.
    together_moved Fits c.args.standing.now c.args.linked.items c.sort.new.self.items c.in_ok-sort.ensures.permutation (partners_at assoc side) (subst P c.deref.ensures.value (together is)))
    c.keep_side.ensures
