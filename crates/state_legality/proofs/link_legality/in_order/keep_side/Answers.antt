use Rattle.std.proofs.Common.{◌≡◌, List, All, Bool, true, false, sym, subst, ◌∙◌}
use Rattle.round_trip.specs.Words.{End, IsA, Mult}
use Rattle.state_legality.specs.link_legality.Ends.{IsMarked, MarksUnder}
use Rattle.state_legality.specs.link_legality.InOrder.{HasEach, StandTogether, StandsWith}
use Rattle.state_legality.specs.link_legality.Sides.{end_at}
use Rattle.state_legality.proofs.link_legality.InOrder.{together_marked}
use Rattle.state_legality.proofs.link_legality.in_order.keep_side.Goals as goal
use Rattle.state_legality.proofs.link_legality.in_order.keep_side.Goals.{then-are_held, else-are_held}

pub returns : goal.returns
returns c =
    let model = c.args.model.now in
    let standing = c.args.standing.now in
    let linked = c.args.linked.now in
    let u = (end_at c.args.assoc.now c.args.side).ty in
    let mult = c.partners_of-mult.result in
    let marks = c.in_ok-under.under.items in
    let E : End → Type 0 = λ end. MarksUnder model end.ty marks in
    let H : List Bool → Type 0 = λ found. All (StandsWith (IsMarked found) standing) linked in
    let N : List Bool → Type 0 = λ found. HasEach mult (IsMarked found) standing linked in
    let S : Mult → Type 0 = λ many. StandTogether many (λ t. IsA model t u) standing linked in
    elim c.if-are_held.branch [
      | then-are_held w ↦ λ is.
          subst S c.partners_of-mult.ensures
          (together_marked model u marks (subst E c.end_of.ensures c.in_ok-under.ensures) standing linked mult (c.in_ok-are_once.ensures c.if-not-branch.false)
          (subst H c.deref.ensures.value (c.are_held.ensures w.if-are_held.true)) (subst N w.deref-then-are_held.ensures.value (w.have_each.ensures (sym w.result-is ∙ is))))
      | else-are_held w ↦ λ is. absurd (let differ : false ≡ true = sym w.if-are_held.false ∙ sym w.result-is ∙ is in cc)
    ]
