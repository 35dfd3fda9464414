use Rattle.std.proofs.Common.{List, refl, subst, sym}
use Rattle.std.proofs.lemmas.Bool.{both_ways}
use Rattle.std.proofs.lemmas.Option.{slice_get_read}
use Rattle.round_trip.specs.Words.{Entity, IsLegalSet}
use Rattle.entity_state.proofs.breach_order.Turns.{each_all, each_more, each_none}
use Rattle.state_legality.proofs.set_legality.legal.have_legal_sets.Goals as goal

pub loop-s-init : goal.loop-s-init
loop-s-init c = each_none _ _

pub returns-then-not-is_legal_set : goal.returns-then-not-is_legal_set
returns-then-not-is_legal_set c = (
  λ no. absurd cc,
  λ all.
      (let s = c.loop-s.s in
      let set = c.index-sets-s.result in
      let P : List Entity → Type 0 = λ entities. IsLegalSet c.args.model.now set entities in
      absurd (both_ways c.is_legal_set.result c.if-not-is_legal_set.true (c.is_legal_set.ensures.1
      (subst P (sym c.list_at.ensures) (all s set (slice_get_read _ _ s _ refl c.loop-s-test.true c.index-sets-s.is)))))),
)

pub loop-s-preserved : goal.loop-s-preserved
loop-s-preserved c =
    let s = c.loop-s.s in
    let set = c.index-sets-s.result in
    let P : List Entity → Type 0 = λ entities. IsLegalSet c.args.model.now set entities in
    each_more _ _ s set (slice_get_read _ _ s _ refl c.loop-s-test.true c.index-sets-s.is)
    (subst P c.list_at.ensures (c.is_legal_set.ensures.0 c.if-not-is_legal_set.false)) c.loop-s.invariant

pub returns : goal.returns
returns c = (λ _. each_all _ _ c.loop-s.s c.loop-s-test.false c.loop-s.invariant, λ _. refl)
