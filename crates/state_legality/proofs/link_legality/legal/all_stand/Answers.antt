use Rattle.std.proofs.Common.{List, refl, sym, subst₂}
use Rattle.std.proofs.lemmas.Bool.{both_ways}
use Rattle.std.proofs.lemmas.Option.{slice_get_read}
use Rattle.entity_state.proofs.breach_order.Turns.{all_here, all_seen, each_more, each_none}
use Rattle.round_trip.specs.Words.{End, Link, Value}
use Rattle.state_legality.specs.link_legality.Sides.{end_at, key_at}
use Rattle.state_legality.specs.link_legality.Ends.{StandsAmong}
use Rattle.state_legality.proofs.link_legality.legal.all_stand.Goals as goal

pub loop-link-init : goal.loop-link-init
loop-link-init c = each_none _ _

pub returns-then-not-stands_among : goal.returns-then-not-stands_among
returns-then-not-stands_among c =
    let n = c.loop-link.link-index in
    let P : End → List Value → Type 0 = λ end key. StandsAmong c.args.model.now end.ty c.args.entities.now key in (
      λ no. absurd cc,
      λ all. absurd (both_ways c.stands_among.result c.if-not-stands_among.true (c.stands_among.ensures.1 (subst₂ P (sym c.end_of.ensures) (sym c.key_of.ensures)
          (all_here (λ (link : Link). StandsAmong c.args.model.now (end_at c.args.assoc.now c.args.side).ty c.args.entities.now (key_at link c.args.side))
          c.args.links.now n c.link-item.result all (slice_get_read _ _ n _ refl c.loop-link-test.true c.link-item.is))))),
    )

pub loop-link-preserved : goal.loop-link-preserved
loop-link-preserved c =
    let n = c.loop-link.link-index in
    let P : End → List Value → Type 0 = λ end key. StandsAmong c.args.model.now end.ty c.args.entities.now key in
    each_more _ _ n c.link-item.result (slice_get_read _ _ n _ refl c.loop-link-test.true c.link-item.is)
    (subst₂ P c.end_of.ensures c.key_of.ensures (c.stands_among.ensures.0 c.if-not-stands_among.false)) c.loop-link.invariant

pub returns : goal.returns
returns c = (
  λ _. all_seen (λ (link : Link). StandsAmong c.args.model.now (end_at c.args.assoc.now c.args.side).ty c.args.entities.now (key_at link c.args.side))
      c.args.links.now c.loop-link.link-index c.loop-link-test.false c.loop-link.invariant,
  λ _. refl,
)
