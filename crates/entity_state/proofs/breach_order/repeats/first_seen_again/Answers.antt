use Rattle.std.proofs.Common.{refl, rules, sym, ◌∙◌}
use Rattle.std.proofs.lemmas.Bool.{not-false, not-true}
use Rattle.std.proofs.lemmas.Option.{slice_get_read}
use Rattle.entity_state.proofs.breach_order.Seen.{seen_all, seen_hit, seen_more, seen_none}
use Rattle.entity_state.proofs.breach_order.repeats.first_seen_again.Goals as goal

pub loop-i-init : goal.loop-i-init
loop-i-init g c = seen_none _ _ _ (search rules)

pub returns-then-not-branch : goal.returns-then-not-branch
returns-then-not-branch g c =
    seen_hit _ _ _ c.loop-i.i _ (slice_get_read _ _ c.loop-i.i _ refl c.loop-i-test.true c.index-keys-i.is) c.loop-i.invariant
    (not-false _ (sym c.in_ok-insert.ensures.added ∙ c.if-not-branch.true))

pub loop-i-preserved : goal.loop-i-preserved
loop-i-preserved g c =
    seen_more _ _ _ _ c.loop-i.i _ (slice_get_read _ _ c.loop-i.i _ refl c.loop-i-test.true c.index-keys-i.is) c.loop-i.invariant
    (not-true _ (sym c.in_ok-insert.ensures.added ∙ c.if-not-branch.false)) (λ q. c.in_ok-insert.ensures.updates.0 (record { ref_ptr = (0, 0); now = q }))

pub returns : goal.returns
returns g c = seen_all _ _ _ c.loop-i.i c.loop-i-test.false c.loop-i.invariant
