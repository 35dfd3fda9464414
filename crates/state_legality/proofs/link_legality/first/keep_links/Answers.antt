use Rattle.std.proofs.Common.{ℕ, List, subst₂}
use Rattle.std.proofs.lemmas.Result.{IfOk-weaker}
use Rattle.round_trip.specs.Words.{Value}
use Rattle.state_legality.specs.link_legality.InOrder.{KeepInOrder}
use Rattle.state_legality.proofs.link_legality.InOrder.{keeps_independent}
use Rattle.state_legality.proofs.link_legality.first.keep_links.Goals as goal

pub returns : goal.returns
returns c entities stands =
    let model = c.args.model.now in
    let assoc = c.args.assoc.now in
    let links = c.args.links.now in
    let first = c.in-Some.ensures in
    let second = c.in-Some-standing_at.ensures in
    let K : List (List Value × ℕ) → List (List Value × ℕ) → Type 0 = λ one other. KeepInOrder model assoc one other links in
    IfOk-weaker c.keep_in_order.result _ _ (λ kept keeps is.
    keeps_independent model entities links assoc c.args.standing.now first.0 second.0 stands first.1 second.1 (subst₂ K first.2 second.2 (keeps is))) c.keep_in_order.ensures
