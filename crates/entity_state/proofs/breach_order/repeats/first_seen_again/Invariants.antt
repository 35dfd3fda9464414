use Rattle.std.specs.BTreeSet.{contains}
use Rattle.std.specs.Ordering.{eq_by_cmp}
use Rattle.entity_state.proofs.breach_order.Seen.{HasSeen}
use Rattle.entity_state.proofs.breach_order.repeats.first_seen_again.Given as goal

-- the set has the keys that were passed, which are apart; where its references point plays no part
abbrev pub invariant-loop-i : goal.invariant-loop-i
invariant-loop-i g l = HasSeen (eq_by_cmp g.K.Ord.cmp) l.keys (λ q. contains (λ a b. g.K.Ord.cmp a.now b.now) l.seen (record { ref_ptr = (0, 0); now = q })) l.i
