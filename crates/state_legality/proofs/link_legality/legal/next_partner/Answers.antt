use Rattle.std.proofs.Common.{◌≡◌, refl, sym, ◌∙◌}
use Rattle.std.proofs.lemmas.Bool.{both_ways}
use Rattle.std.proofs.lemmas.Option.{slice_get_read}
use Rattle.round_trip.specs.Words.{Link, key_of}
use Rattle.state_legality.specs.link_legality.Sides.{key_at}
use Rattle.state_legality.proofs.link_legality.Legality.{next_here, none_end, none_more, none_start}
use Rattle.state_legality.proofs.link_legality.legal.next_partner.Goals as goal

pub loop-i-init : goal.loop-i-init
loop-i-init c = none_start (λ (link : Link). key_at link c.args.side ≡ key_of c.args.model.now c.args.entity.now) c.args.links.now c.args.from

pub returns-then-has_key : goal.returns-then-has_key
returns-then-has_key c =
    next_here (λ (link : Link). key_at link c.args.side ≡ key_of c.args.model.now c.args.entity.now) c.args.links.now c.args.from c.loop-i.i c.index-links-i.result
    (slice_get_read _ _ c.loop-i.i _ refl c.loop-i-test.true c.index-links-i.is) (sym (c.has_key.ensures.0 c.if-has_key.true ∙ c.key_of.ensures)) c.loop-i.invariant

pub loop-i-preserved : goal.loop-i-preserved
loop-i-preserved c =
    none_more (λ (link : Link). key_at link c.args.side ≡ key_of c.args.model.now c.args.entity.now) c.args.links.now c.args.from c.loop-i.i c.index-links-i.result
    (slice_get_read _ _ c.loop-i.i _ refl c.loop-i-test.true c.index-links-i.is)
    (λ same. both_ways c.has_key.result c.if-has_key.false (c.has_key.ensures.1 (sym same ∙ sym c.key_of.ensures))) c.loop-i.invariant

pub returns : goal.returns
returns c = none_end (λ (link : Link). key_at link c.args.side ≡ key_of c.args.model.now c.args.entity.now) c.args.links.now c.args.from c.loop-i.i c.loop-i-test.false c.loop-i.invariant
