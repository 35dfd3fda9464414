use Rattle.std.proofs.Common.{◌-◌, ◌<◌, get_or, length, sym, ap, ◌∙◌, arith}
use Rattle.std.specs.Borrow.{Bor}
use Rattle.std.proofs.lemmas.List.{get_or_default}
use Rattle.emc_base.proofs.facts.Orderings.{is_less}
use Rattle.entity_state.proofs.breach_order.Rising.{rises_more}
use Rattle.entity_state.proofs.breach_order.in_order.rise.Goals as goal

pub loop-i-preserved : goal.loop-i-preserved
loop-i-preserved g c =
    let cmp = g.K.Ord.cmp in
    let keys = c.args.keys.now in
    let some = c.loop-i.invariant.0 in
    let inside : c.loop-i.i < length keys = c.loop-i-test.true in
    let next : (d : Bor g.row.K.Denot) → _ = λ d.
    let one = c.index-keys-i.is ∙ get_or_default keys (c.loop-i.i - 1) c.index-keys-i.result d (omega (arith, some, inside)) in
    let other = c.index-keys-i-in-loop-i.is ∙ get_or_default keys c.loop-i.i c.index-keys-i-in-loop-i.result d inside in
    ap (λ (key : Bor g.row.K.Denot). cmp key.now (get_or keys c.loop-i.i d).now) (sym one) ∙ ap (λ (key : Bor g.row.K.Denot). cmp c.index-keys-i.result.now key.now) (sym other)
    ∙ sym c.cmp.ensures ∙ is_less c.cmp.result (sym c.is_lt.ensures ∙ c.if-not-is_lt.false) in
    (omega (arith, some), rises_more cmp g.met.K.Ord.total keys c.loop-i.i some next c.loop-i.invariant.1)
