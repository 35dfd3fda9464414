use Rattle.std.proofs.Common.{◌≡◌, ◌+◌, ◌-◌, ◌<◌, ◌==◌, false, sym, ◌∙◌, Some, arith, suc}
use Rattle.std.proofs.lemmas.Bool.Decides.{Decides-eqb}
use Rattle.emc_base.proofs.facts.Tests.{fails_by}
use Rattle.supported_states.proofs.Bases.{found_above}
use Rattle.supported_states.proofs.declared.derives.Goals as goal

pub loop-preserved : goal.loop-preserved
loop-preserved c =
    let t = c.loop.at in
    let u = c.args.u in
    let end = c.len-end.result in
    let i = c.loop.counter in
    let below : i < end = c.loop-test.true in
    let one : end - i ≡ suc (end - (i + 1)) = omega (arith, below) in
    let other : (t.index == u.index) ≡ false = fails_by (t.index == u.index) (λ told. c.if-at-u.false ((Decides-eqb t.index u.index).0 told)) in
    c.loop.invariant ∙ found_above c.args.model.now t u (end - i) (end - (i + 1)) one other (Some c.in-Some.base) (sym c.base_of.ensures ∙ c.in-Some.is)
