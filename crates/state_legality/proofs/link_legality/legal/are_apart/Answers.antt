use Rattle.std.proofs.Common.{refl}
use Rattle.std.proofs.lemmas.Bool.{both_ways}
use Rattle.entity_state.proofs.breach_order.Apart.{apart_end, apart_more, apart_none, apart_start}
use Rattle.round_trip.specs.Words.{Link}
use Rattle.state_legality.proofs.link_legality.legal.are_apart.Goals as goal

pub loop-i-init : goal.loop-i-init
loop-i-init c = apart_start (λ (link : Link). link) c.args.links.now

pub returns-then-repeats : goal.returns-then-repeats
returns-then-repeats c = (
  λ no. absurd cc,
  λ apart. absurd (apart_none (λ (link : Link). link) c.args.links.now apart c.loop-i.i (c.repeats.ensures.0 c.if-repeats.true)),
)

pub loop-i-preserved : goal.loop-i-preserved
loop-i-preserved c =
    apart_more (λ (link : Link). link) c.args.links.now c.loop-i.i (λ repeat. both_ways c.repeats.result c.if-repeats.false (c.repeats.ensures.1 repeat)) c.loop-i.invariant

pub returns : goal.returns
returns c = (λ _. apart_end (λ (link : Link). link) c.args.links.now c.loop-i.i c.loop-i-test.false c.loop-i.invariant, λ _. refl)
