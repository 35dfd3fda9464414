use Rattle.std.proofs.Common.{◌<◌, length, refl, arith}
use Rattle.std.proofs.lemmas.Bool.{both_ways}
use Rattle.std.proofs.lemmas.Option.{slice_get_read}
use Rattle.round_trip.specs.Words.{key_of}
use Rattle.entity_state.proofs.breach_order.Apart.{other_end, other_more, other_start, repeat_here}
use Rattle.state_legality.proofs.set_legality.legal.repeats.Goals as goal

pub loop-k-init : goal.loop-k-init
loop-k-init c = other_start (key_of c.args.model.now) c.args.entities.now c.args.i

pub returns-then-have_one_key : goal.returns-then-have_one_key
returns-then-have_one_key c =
    let k = c.loop-k.k in
    let before : k < c.args.i = c.loop-k-test.true in
    let inside : c.args.i < length c.args.entities.now = c.requires in
    let within : k < length c.args.entities.now = omega arith in (
      λ _. repeat_here (key_of c.args.model.now) c.args.entities.now c.args.i k c.index-entities-i.result c.index-entities-k.result
          (slice_get_read _ _ c.args.i _ refl inside c.index-entities-i.is) (slice_get_read _ _ k _ refl within c.index-entities-k.is) before
          (c.have_one_key.ensures.0 c.if-have_one_key.true),
      λ _. refl,
    )

pub loop-k-preserved : goal.loop-k-preserved
loop-k-preserved c =
    let k = c.loop-k.k in
    let before : k < c.args.i = c.loop-k-test.true in
    let inside : c.args.i < length c.args.entities.now = c.requires in
    let within : k < length c.args.entities.now = omega arith in
    other_more (key_of c.args.model.now) c.args.entities.now c.args.i k c.index-entities-i.result c.index-entities-k.result
    (slice_get_read _ _ c.args.i _ refl inside c.index-entities-i.is) (slice_get_read _ _ k _ refl within c.index-entities-k.is)
    (λ same. both_ways c.have_one_key.result c.if-have_one_key.false (c.have_one_key.ensures.1 same)) c.loop-k.invariant

pub returns : goal.returns
returns c = (
  λ no. absurd cc,
  λ repeat. absurd (other_end (key_of c.args.model.now) c.args.entities.now c.args.i c.loop-k.k c.loop-k-test.false c.loop-k.invariant repeat),
)
