use Rattle.std.proofs.Common.{ℕ, List, Option, sym, subst}
use Rattle.std.specs.Global.{Vec}
use Rattle.round_trip.specs.Words.{Value}
use Rattle.state_legality.specs.link_legality.Standing.{AreInOrder, AreStanding}
use Rattle.state_legality.proofs.link_legality.InOrder.{stand_in_order}
use Rattle.state_legality.proofs.link_legality.first.first_in_links.Goals as goal

pub first_beside-requires-clause-standing : goal.first_beside-requires-clause-standing
first_beside-requires-clause-standing c =
    let model = c.args.model.now in
    let entities = c.args.entities.now in
    let K : List (Option (Vec (List Value × ℕ))) → Type 0 = λ keys. AreInOrder keys c.in_ok-standing.standing.items in
    let S : List (Option (Vec (List Value × ℕ))) → Type 0 = λ standing. AreStanding model entities standing in
    subst S (sym c.deref-2.ensures.value)
    (stand_in_order model entities c.in_ok-keys.keys.items c.in_ok-standing.standing.items c.in_ok-keys.ensures (subst K c.deref.ensures.value c.in_ok-standing.ensures))
