use Rattle.std.proofs.Common.{◌<◌, length, refl, arith}
use Rattle.std.proofs.lemmas.Bool.{both_ways}
use Rattle.std.proofs.lemmas.Option.{slice_get_read}
use Rattle.entity_state.proofs.breach_order.Apart.{other_end, other_more, other_start, repeat_here}
use Rattle.round_trip.specs.Words.{Link}
use Rattle.state_legality.proofs.link_legality.legal.repeats.Goals as goal

pub loop-k-init : goal.loop-k-init
loop-k-init c = other_start (λ (link : Link). link) c.args.links.now c.args.i

pub returns-then-is_same_link : goal.returns-then-is_same_link
returns-then-is_same_link c =
    let k = c.loop-k.k in
    let before : k < c.args.i = c.loop-k-test.true in
    let inside : c.args.i < length c.args.links.now = c.requires in
    let within : k < length c.args.links.now = omega arith in (
      λ _. repeat_here (λ (link : Link). link) c.args.links.now c.args.i k c.index-links-i.result c.index-links-k.result
          (slice_get_read _ _ c.args.i _ refl inside c.index-links-i.is) (slice_get_read _ _ k _ refl within c.index-links-k.is) before
          (c.is_same_link.ensures.0 c.if-is_same_link.true),
      λ _. refl,
    )

pub loop-k-preserved : goal.loop-k-preserved
loop-k-preserved c =
    let k = c.loop-k.k in
    let before : k < c.args.i = c.loop-k-test.true in
    let inside : c.args.i < length c.args.links.now = c.requires in
    let within : k < length c.args.links.now = omega arith in
    other_more (λ (link : Link). link) c.args.links.now c.args.i k c.index-links-i.result c.index-links-k.result
    (slice_get_read _ _ c.args.i _ refl inside c.index-links-i.is) (slice_get_read _ _ k _ refl within c.index-links-k.is)
    (λ same. both_ways c.is_same_link.result c.if-is_same_link.false (c.is_same_link.ensures.1 same))
    c.loop-k.invariant

pub returns : goal.returns
returns c = (
  λ no. absurd cc,
  λ repeat. absurd (other_end (λ (link : Link). link) c.args.links.now c.args.i c.loop-k.k c.loop-k-test.false c.loop-k.invariant repeat),
)
